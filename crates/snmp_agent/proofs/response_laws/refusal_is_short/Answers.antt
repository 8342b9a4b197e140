use Rattle.std.proofs.Common.{pos, [], ◌∷◌, refl, arith}
use Rattle.snmp_agent.specs.CounterReports.{count_variable, count_report, refusing}
use Rattle.snmp_agent.proofs.Sizes.{pdu_most_with, spoken_fits, spoken_size, count_list}
use Rattle.snmp_agent.proofs.response_laws.refusal_is_short.Goals as goal

pub returns : goal.returns
returns c = λ users engine own g p counter value salt text engine_short pair id user_short eight sealed.
    let s = count_report engine own g p counter value salt in
    let list = count_list counter value in
    let pdu = pdu_most_with 168 p.id (pos 0) (pos 0) (count_variable counter value ∷ []) in
    let most = c.sealed_size.ensures.most users (refusing engine own g p counter value salt) text (spoken_fits c.one_element.ensures.canonical s id pair user_short eight (omega (arith, engine_short, list, pdu))) sealed in
    let whole = spoken_size s 168 p.id (pos 0) (pos 0) (count_variable counter value ∷ []) refl text most in
    omega (arith, whole, engine_short, user_short, list)
