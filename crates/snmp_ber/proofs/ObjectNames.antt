-- Identifiers by their contents.
use Rattle.std.proofs.Common.{◌≡◌, ℕ, ◌+◌, ◌*◌, ◌<◌, ◌^◌, List, [], ◌∷◌, Some, get_or, refl, sym, subst, ap, arith}
use Rattle.std.specs.List.{AllByRecursion}
use Rattle.std.specs.Prelude.{is_some, true, false, Option, None}
use Rattle.snmp_ber.specs.ObjectName.{found_arcs, arcs_in}
use Rattle.snmp_ber.specs.Oid.{AreSubidentifiers, AreArcs, IsIdentifier, identifier_in}
use Rattle.snmp_ber.proofs.Oids.{identifier_in-again, identifier_in-is, octets_from}

-- The content of an identifier tells it.
pub arcs_in-again : (arcs content : List ℕ) → IsIdentifier arcs content → arcs_in content ≡ arcs
unfolding arcs_in
arcs_in-again arcs content h = ap found_arcs (identifier_in-again arcs content h)

pub named : (arcs content : List ℕ) → IsIdentifier arcs content → IsIdentifier (arcs_in content) content
named arcs content h = subst (λ (ns : List ℕ). IsIdentifier ns content) (sym (arcs_in-again arcs content h)) h

limits_from : (ns octets : List ℕ) → AreSubidentifiers ns octets → AllByRecursion (λ n. n < 2 ^ 32) ns
limits_from [] octets h = tt
limits_from (n ∷ ns) octets (text, rest, is, parts, others) = (omega (arith, is.limit), limits_from ns rest others)

-- the arcs of an identifier that was read
pub arcs_from : (arcs content : List ℕ) → IsIdentifier arcs content → AreArcs arcs
arcs_from [] content h = absurd h.object_id
arcs_from (a ∷ []) content h = absurd h.object_id
arcs_from (a ∷ b ∷ arcs) content h =
    let limits = limits_from ((40 * a + b) ∷ arcs) content h.spelled in
    record { some = omega arith; most = h.most; limit = (omega (arith, h.object_id.0), (omega (arith, h.object_id.2), limits.1)) }

-- where one is found
pub found : (content : List ℕ) → ((i : ℕ) → get_or content i 0 < 256) → is_some (identifier_in content) ≡ true → IsIdentifier (arcs_in content) content
found content bytes some = by (identifier_in content) refl some
  where
    by : (o : Option (List ℕ)) → identifier_in content ≡ o → is_some o ≡ true → IsIdentifier (arcs_in content) content
    by None e some = absurd cc
    by (Some arcs) e some = named arcs content (identifier_in-is arcs content (octets_from content bytes) e)

pub found_exactly : (content : List ℕ) → IsIdentifier (arcs_in content) content → Some (arcs_in content) ≡ identifier_in content
found_exactly content h = sym (identifier_in-again (arcs_in content) content h)

pub none_found : (content : List ℕ) → is_some (identifier_in content) ≡ false → None ≡ identifier_in content
none_found content none = by (identifier_in content) none
  where
    by : (o : Option (List ℕ)) → is_some o ≡ false → ◌≡◌ {A = Option (List ℕ)} None o
    by None none = refl
    by (Some arcs) none = absurd cc
