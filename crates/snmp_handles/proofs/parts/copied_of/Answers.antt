use Rattle.std.proofs.Common.{List, ℕ, refl, sym, ap, subst}
use Rattle.snmp_message.specs.Scoped.{Contexts, contexts_of}
use Rattle.snmp_msg.specs.Pdu.{pdu_of}
use Rattle.snmp_incoming.specs.Outcome.{Given}
use Rattle.snmp_incoming.specs.Answers.{given_of}
use Rattle.snmp_handles.specs.Parts.{IsPartOf}
use Rattle.snmp_handles.specs.declared.parts.Part.{Part}
use Rattle.snmp_handles.specs.declared.parts.Part.TheVariants.{Bindings, User, ContextEngine, ContextName}
use Rattle.snmp_handles.proofs.parts.copied_of.Goals as goal

pub returns-in-Bindings : goal.returns-in-Bindings
returns-in-Bindings c =
    let octets : List ℕ = c.pdu.result.list.now in
    let of_taken : IsPartOf (given_of c.taken-taken.result) Bindings octets = λ k f. (pdu_of c.pdu.result, c.pdu.ensures.is_pdu k f, refl) in
    let of_kept : IsPartOf c.args.kept.now Bindings octets = subst (λ (g : Given). IsPartOf g Bindings octets) c.taken-taken.ensures of_taken in
    (octets, subst (λ (part : Part). IsPartOf c.args.kept.now part octets) (sym c.in-Bindings.is) of_kept, c.copy_to.ensures)

pub returns-in-User : goal.returns-in-User
returns-in-User c =
    let octets : List ℕ = c.taken-taken.result.user.now in
    let of_kept : IsPartOf c.args.kept.now User octets = (ap (λ (g : Given). g.user) c.taken-taken.ensures, c.taken-taken.result.user_fits) in
    (octets, subst (λ (part : Part). IsPartOf c.args.kept.now part octets) (sym c.in-User.is) of_kept, c.copy_to-in-User.ensures)

pub returns-in-ContextEngine : goal.returns-in-ContextEngine
returns-in-ContextEngine c =
    let octets : List ℕ = c.scoped-scoped.result.engine.now in
    let of_taken : IsPartOf (given_of c.taken-taken.result) ContextEngine octets = λ k f.
    ap (λ (s : Contexts). s.engine) (c.one_content.ensures.front (given_of c.taken-taken.result).text (contexts_of c.scoped-scoped.result) k c.scoped-scoped.ensures f) in
    let of_kept : IsPartOf c.args.kept.now ContextEngine octets = subst (λ (g : Given). IsPartOf g ContextEngine octets) c.taken-taken.ensures of_taken in
    (octets, subst (λ (part : Part). IsPartOf c.args.kept.now part octets) (sym c.in-ContextEngine.is) of_kept, c.copy_to-in-ContextEngine.ensures)

pub returns-in-ContextName : goal.returns-in-ContextName
returns-in-ContextName c =
    let octets : List ℕ = c.scoped-scoped.result.name.now in
    let of_taken : IsPartOf (given_of c.taken-taken.result) ContextName octets = λ k f.
    ap (λ (s : Contexts). s.name) (c.one_content.ensures.front (given_of c.taken-taken.result).text (contexts_of c.scoped-scoped.result) k c.scoped-scoped.ensures f) in
    let of_kept : IsPartOf c.args.kept.now ContextName octets = subst (λ (g : Given). IsPartOf g ContextName octets) c.taken-taken.ensures of_taken in
    (octets, subst (λ (part : Part). IsPartOf c.args.kept.now part octets) (sym c.in-ContextName.is) of_kept, c.copy_to-in-ContextName.ensures)
