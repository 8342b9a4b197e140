use Rattle.std.proofs.Common.{◌∙◌, rules, sym}
use Rattle.std.proofs.lemmas.List.{nil_from_length}
use Rattle.std.proofs.lemmas.Bool.{eqb-true}
use Rattle.snmp_message.specs.Scoped.{contexts_of}
use Rattle.diagnose_text.proofs.follower.context_of.Goals as goal

pub returns-then-is_empty : goal.returns-then-is_empty
returns-then-is_empty c = (contexts_of c.scoped.result, c.scoped.ensures, sym (nil_from_length c.scoped.result.name.now (eqb-true _ 0 (sym c.is_empty.ensures ∙ c.if-is_empty.true))))

pub returns : goal.returns
returns c = (contexts_of c.scoped.result, c.scoped.ensures, search rules)
