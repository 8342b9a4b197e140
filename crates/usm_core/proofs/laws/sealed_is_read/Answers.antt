use Rattle.usm_core.proofs.Again.{says, read, flags_of}
use Rattle.usm_core.proofs.laws.sealed_is_read.Goals as goal

pub returns : goal.returns
returns c users m text s fits model scoped rows =
    let (p, f, said) = says c.written_again.ensures.message c.written_again.ensures.security c.longer_whole.ensures users m text fits rows in
    (record { parts = p; fields = f }, read c.one_cut.ensures.cut c.field_filled.ensures.filled c.one_element.ensures.one c.one_message.ensures.version users m text s p f model scoped (flags_of users m text rows) said, said)
