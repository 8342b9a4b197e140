-- The requests that wait, once one is added or ended.
use Rattle.std.proofs.Common.{◌≡◌, ℕ, ◌+◌, ◌<◌, ◌≤◌, List, cond, Some, None, inl, inr, sym, ap, subst, ◌∙◌, arith}
use Rattle.std.specs.Ordering.{nat_cmp}
use Rattle.std.specs.FinMap as map
use Rattle.std.specs.BTreeMap.{is_at}
use Rattle.std.specs.FinMap.{len-empty, get-empty}
use Rattle.snmp_requests.specs.declared.outstanding.OutstandingRequest.{OutstandingRequest}
use Rattle.snmp_requests.specs.declared.outstanding.TheConstants.{REQUESTS_LIMIT}
use Rattle.snmp_manager.specs.declared.pending.Pending.{Pending}
use Rattle.snmp_requests.specs.Outstanding.{AreOutstanding, IsAdded, IsEnded, IsFreeToken, IsRequestAt, IsRequestOf, Outstanding, message_id_of, none_outstanding, without}
use Rattle.snmp_requests.proofs.Maps.{at_insert, at_remove, found_in, one_set, len_insert_new, len_remove_there}

pub are_none : AreOutstanding none_outstanding
are_none = record {
  by_id = λ id r is. let none : None ≡ Some r = sym (get-empty nat_cmp id) ∙ is in cc none;
  few = omega (arith, len-empty nat_cmp OutstandingRequest);
}

-- one that was given a token below one number was given one below a greater number
later_at : (next more id : ℕ) (r : OutstandingRequest) → next ≤ more → IsRequestAt next id r → IsRequestAt more id r
later_at next more id r least at = record {
  token_is = at.token_is;
  given = omega (arith, at.given);
  id_is = at.id_is;
  engine_is = at.engine_is;
  user_is = at.user_is;
}

pub are_added : (old new : Outstanding) (token : ℕ) (pending : Pending) → AreOutstanding old → IsFreeToken old token → map.len old.requests < REQUESTS_LIMIT
    → IsAdded old token pending new → AreOutstanding new
are_added old new token pending are next room added = subst AreOutstanding (sym added.new_is) (record {
  by_id = λ id r is. elim (at_insert old.requests (message_id_of token) added.request id r is) [
    | inl (here, same) ↦ subst (λ n. IsRequestAt (token + 1) n r) (sym here) (subst (IsRequestAt (token + 1) (message_id_of token)) (sym same) added.request_is.is_at)
    | inr before ↦ later_at old.next (token + 1) id r (omega (arith, next.new)) (are.by_id id r before)
  ];
  few = omega (arith, room, len_insert_new old.requests (message_id_of token) added.request next.free);
})

pub are_without : (all : Outstanding) (id : ℕ) → AreOutstanding all → AreOutstanding (without all id)
are_without all id are = record {
  by_id = λ at r is. are.by_id at r (at_remove all.requests id at r is).1;
  few = omega (arith, are.few, len_remove_there all.requests id);
}

pub are_ended : (old new : Outstanding) (token : ℕ) → AreOutstanding old → IsEnded old token new → AreOutstanding new
are_ended old new token are ended = subst AreOutstanding (sym ended.new_is) (are_without old (message_id_of token) are)

-- the entries of the map in the code have one more
pub is_added : (es fs : List (ℕ × OutstandingRequest)) (next id token : ℕ) (pending : Pending) (request : OutstandingRequest) (now : Outstanding)
    → record { requests = map.from_entries es; next = next } ≡ now → id ≡ message_id_of token → IsRequestOf token pending request
    → ((q : ℕ) → found_in fs q ≡ cond (is_at (nat_cmp id) q) (Some request) (found_in es q))
    → IsAdded now token pending (record { requests = map.from_entries fs; next = token + 1 })
is_added es fs next id token pending request now view id_is request_is found = record {
  request = request;
  request_is = request_is;
  new_is =
      ap (λ requests. record { requests = requests; next = token + 1 }) (one_set es fs id request found)
      ∙ ap (λ n. record { requests = map.insert (map.from_entries es) n request; next = token + 1 }) id_is
      ∙ ap (λ (all : Outstanding). record { requests = map.insert all.requests (message_id_of token) request; next = token + 1 }) view;
}
