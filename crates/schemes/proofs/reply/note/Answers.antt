use borrow.Author.Rules.{rules}
use mathlib.Core.Path.{◌∙◌}
use Rattle.schemes.proofs.Mentions.{any-has, note-inside, note-known, note-room, note-new}
use Rattle.schemes.proofs.reply.note.Goals as goal

pub shared_ref_as_front-contains : goal.shared_ref_as_front-contains
shared_ref_as_front-contains c = search (rules, note-inside)

pub returns-then-contains : goal.returns-then-contains
returns-then-contains c = note-known _ _ _ c.requires c.if-n-p.false _ (c.contains.ensures.value ∙ any-has _ _) c.if-contains.true

pub bounds-next-count : goal.bounds-next-count
bounds-next-count c = note-room _ _ _ c.requires c.if-n-p.false _ (c.contains.ensures.value ∙ any-has _ _) c.if-contains.false

pub returns : goal.returns
returns c = note-new _ _ _ c.requires c.if-n-p.false _ (c.contains.ensures.value ∙ any-has _ _) c.if-contains.false
