use Rattle.reports.proofs.Chains.{reports, report-opened, report-read, report-choice, report-wrote}
use Rattle.reports.proofs.report.Goals as goal

pub returns-then-a-ne0 : goal.returns-then-a-ne0
returns-then-a-ne0 c = search reports

pub returns-then-eq : goal.returns-then-eq
returns-then-eq c = report-opened _ _ _ _ _ c.if-a-ne0.false c.if-eq.ensures c.append.ensures

pub returns-then-eq-2 : goal.returns-then-eq-2
returns-then-eq-2 c = report-read _ _ _ _ _ c.if-a-ne0.false c.if-eq.ensures c.if-eq-2.ensures c.numbers-then-eq-2.ensures

pub returns-then-names_choice : goal.returns-then-names_choice
returns-then-names_choice c =
    report-choice _ _ _ _ _ c.if-a-ne0.false c.if-eq.ensures c.if-eq-2.ensures _ c.wrote-at.ensures _ c.names_choice.ensures c.if-names_choice.true
    c.choice.ensures

pub returns : goal.returns
returns c =
    report-wrote _ _ _ _ _ c.if-a-ne0.false c.if-eq.ensures c.if-eq-2.ensures _ c.wrote-at.ensures _ c.names_choice.ensures c.if-names_choice.false
    c.append-2.ensures
