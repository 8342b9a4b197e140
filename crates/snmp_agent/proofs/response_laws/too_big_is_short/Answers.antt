use Rattle.std.proofs.Common.{[], refl, arith}
use Rattle.snmp_agent.specs.Responses.{response, responding}
use Rattle.snmp_agent.proofs.Sizes.{pdu_most_with, spoken_fits, spoken_size, empty_list}
use Rattle.snmp_agent.proofs.response_laws.too_big_is_short.Goals as goal

pub returns : goal.returns
returns c = λ users engine own g s p status index salt text engine_short pair id user_short eight context_short name_short sealed.
    let r = response engine own g s p status index [] salt in
    let pdu = pdu_most_with 162 p.id status index [] in
    let most = c.sealed_size.ensures.most users (responding engine own g s p status index [] salt) text (spoken_fits c.one_element.ensures.canonical r id pair user_short eight (omega (arith, context_short, name_short, pdu, empty_list))) sealed in
    let whole = spoken_size r 162 p.id status index [] refl text most in
    omega (arith, whole, engine_short, user_short, context_short, name_short, empty_list)
