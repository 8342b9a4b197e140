use Rattle.std.proofs.Common.{inl, refl}
use Rattle.diagnose_text.proofs.values.identifier_of.Goals as goal

pub returns-in_ok-format-in-Some : goal.returns-in_ok-format-in-Some
returns-in_ok-format-in-Some c = inl (
  c.in_ok-format-in-Some.field-0,
  record { arcs = c.in-Some.oid; identifier = (c.read_oid.ensures.value c.in-Some.oid).0 c.in-Some.is; whole = c.in_ok-format-in-Some.ensures.ok },
  refl,
)
