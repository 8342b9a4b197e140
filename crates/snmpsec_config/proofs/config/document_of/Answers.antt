use Rattle.snmpsec_config.proofs.config.document_of.Goals as goal

pub returns-in-Ok-clause-document : goal.returns-in-Ok-clause-document
returns-in-Ok-clause-document c =
    let shallow = rw c.in_default.is at c.in_ok-line.ensures in
    record { utf8 = c.in-Ok.ensures.ok.0; shallow = shallow c.in-Ok.ensures.ok.0; parsed = c.in-Ok.ensures.ok.1 }

pub returns-in-Err-2-clause-refuses : goal.returns-in-Err-2-clause-refuses
returns-in-Err-2-clause-refuses c utf8 =
    let shallow = rw c.in_default.is at c.in_ok-line.ensures in
    (shallow utf8, c.in-Err.ensures.refused (λ memory. let told = c.is_memory.ensures.1 memory in cc (told, c.if-is_memory.false)) utf8)
