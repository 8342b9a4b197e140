-- The requests of a manager that wait for their answers (RFC 3412, section 6.2 and section 7.2).
--
-- `Outstanding`: the requests that wait, by msgID, and the tokens that none was given. `message_id_of`: the msgID of a
-- token. `IsNextToken`: the token of the request that is asked next. `IsAdded`: one more
-- waits. `IsEnded`: one waits no more. `Waits`: the request with a token waits.
use Rattle.std.specs.Prelude.{◌≡◌, ℕ, nat_eq, cond, ◌+◌, ◌%◌, ◌-◌, ◌^◌, ◌<◌, ◌≤◌, List, Some, None, IsSome}
use Rattle.std.specs.Ordering.{nat_cmp}
use Rattle.std.specs.FinMap as map
use Rattle.std.specs.List.Sorted.{IsStrictlySortedBy}
use Rattle.std.specs.Map.{keys_of}
use Rattle.snmp_requests.specs.declared.outstanding.OutstandingRequest.{OutstandingRequest}
use Rattle.snmp_requests.specs.declared.outstanding.TheConstants.{MESSAGE_IDS, REQUESTS_LIMIT}
use Rattle.snmp_manager.specs.declared.pending.Pending.{Pending}

pub record Outstanding : Type 0 where
  -- by msgID
  pub requests : map.FinMap nat_cmp OutstandingRequest
  -- no request was given this token, or a greater one
  pub next : ℕ

-- nothing was asked yet
abbrev pub none_outstanding : Outstanding
none_outstanding = record { requests = map.empty; next = 0 }

-- the msgID of the request with this token
abbrev pub message_id_of : ℕ → ℕ
message_id_of token = token % MESSAGE_IDS

-- a request with this msgID waits
abbrev pub IsTaken : Outstanding → ℕ → Type 0
IsTaken all id = IsSome (map.get all.requests id)

-- the request with this token waits
pub record Waits (all : Outstanding) (token : ℕ) : Type 0 where
  pub request : OutstandingRequest
  pub there : map.get all.requests (message_id_of token) ≡ Some request
  pub token_is : request.token ≡ token

-- from where on tokens are given: the first request of all is given this one, if it may have it
abbrev pub from_token : ℕ → ℕ → ℕ
from_token next first = cond (nat_eq next 0) first next

-- a token that none was given, and whose msgID none has that waits
pub record IsFreeToken (all : Outstanding) (token : ℕ) : Type 0 where
  pub new : all.next ≤ token
  pub small : token < 2 ^ 64 - 1
  pub free : map.get all.requests (message_id_of token) ≡ None

-- the first of them from there on
pub record IsNextToken (all : Outstanding) (first token : ℕ) : Type 0 where
  pub is_free : IsFreeToken all token
  pub from : from_token all.next first ≤ token
  pub taken : (t : ℕ) → from_token all.next first ≤ t → t < token → IsTaken all (message_id_of t)

-- each token from there on is of a msgID with which a request waits
abbrev pub HasNoToken : Outstanding → ℕ → Type 0
HasNoToken all first = (t : ℕ) → from_token all.next first ≤ t → t < 2 ^ 64 - 1 → IsTaken all (message_id_of t)

-- it is the request with this msgID, and was given a token below `next`
pub record IsRequestAt (next id : ℕ) (r : OutstandingRequest) : Type 0 where
  pub token_is : message_id_of r.token ≡ id
  pub given : r.token < next
  pub id_is : r.pending.id ≡ id
  pub engine_is : r.engine.items ≡ r.pending.engine.items
  pub user_is : r.user.items ≡ r.pending.user.items

-- it is the request with this token, of which this is remembered
pub record IsRequestOf (token : ℕ) (pending : Pending) (r : OutstandingRequest) : Type 0 where
  pub token_is : r.token ≡ token
  pub pending_is : r.pending ≡ pending
  pub is_at : IsRequestAt (token + 1) (message_id_of token) r

-- the request with this token waits too
pub record IsAdded (old : Outstanding) (token : ℕ) (pending : Pending) (new : Outstanding) : Type 0 where
  pub request : OutstandingRequest
  pub request_is : IsRequestOf token pending request
  pub new_is : new ≡ record { requests = map.insert old.requests (message_id_of token) request; next = token + 1 }

-- all but the one with this msgID
abbrev pub without : Outstanding → ℕ → Outstanding
without old id = record { requests = map.remove old.requests id; next = old.next }

-- the request with this token waits no more, and the others stay as they are
pub record IsEnded (old : Outstanding) (token : ℕ) (new : Outstanding) : Type 0 where
  pub was : Waits old token
  pub new_is : new ≡ without old (message_id_of token)

-- ---- what is true of the requests that wait

pub record AreOutstanding (all : Outstanding) : Type 0 where
  pub by_id : (id : ℕ) (r : OutstandingRequest) → map.get all.requests id ≡ Some r → IsRequestAt all.next id r
  pub few : map.len all.requests ≤ REQUESTS_LIMIT

-- the entries of the map in the code
pub record HoldsOutstanding (entries : List (ℕ × OutstandingRequest)) (next : ℕ) : Type 0 where
  pub rising : IsStrictlySortedBy nat_cmp (keys_of entries)
  pub are : AreOutstanding (record { requests = map.from_entries entries; next = next })
