use Rattle.snmp_requests.proofs.answered.heard_of.Goals as goal

pub returns-in_default : goal.returns-in_default
returns-in_default c = λ k p f q. absurd (c.in_default.ensures k p f q (c.in-Report.ensures k p f q).0)

pub returns-in-Some : goal.returns-in-Some
returns-in-Some c = λ k p f q.
    let told = c.in-Some.ensures k p f q in (told.0, λ vs are. (c.in-Some.report.value, told.1 vs are), c.is_of_engine.ensures)
