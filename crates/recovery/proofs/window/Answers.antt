use Rattle.windows.proofs.Windows.{start-going}
use Rattle.recovery.proofs.Windows.{windows, pieces-going}
use borrow.Author.Rules.{rules}
use Rattle.recovery.proofs.window.Goals as goal

pub show_refusal-requires : goal.show_refusal-requires
show_refusal-requires c = start-going _ c.args.end _ _ c.start-progress.ensures (search rules)

pub returns-then-file-gt65535 : goal.returns-then-file-gt65535
returns-then-file-gt65535 c = search windows

pub show_pieces-scan-requires : goal.show_pieces-scan-requires
show_pieces-scan-requires c = record { file_len_bound = search rules; going = start-going _ c.args.end _ _ c.start-progress.ensures (search rules) }

pub show_end-requires : goal.show_end-requires
show_end-requires c = pieces-going _ _ _ _ _ c.show_pieces-scan.ensures
    (start-going _ c.args.end _ _
    c.start-progress.ensures (search rules))

pub returns : goal.returns
returns c = search windows
