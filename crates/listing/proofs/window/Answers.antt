use Rattle.windows.proofs.Stepping.{went}
use Rattle.windows.proofs.Windows.{start-going}
use Rattle.listing.proofs.Windows.{windows}
use borrow.Author.Rules.{rules}
use Rattle.listing.proofs.window.Goals as goal

pub show_messages-listed-requires : goal.show_messages-listed-requires
show_messages-listed-requires c = record {
  accepts = search windows;
  going = start-going _ c.args.end _ _
      c.start-progress.ensures (search rules);
}

pub show_end-requires : goal.show_end-requires
show_end-requires c = went _ _ _ _ _ c.show_messages-listed.ensures
    (start-going _ c.args.end _ _
    c.start-progress.ensures (search rules))

pub show_refusal-requires : goal.show_refusal-requires
show_refusal-requires c = start-going _ c.args.end _ _
    c.start-progress.ensures (search rules)

pub returns-in-Ok : goal.returns-in-Ok
returns-in-Ok c = search windows

pub returns-in-Err : goal.returns-in-Err
returns-in-Err c = search windows
