-- Arrays of addresses.
use Rattle.std.proofs.Common.{◌≡◌, ℕ, zero, suc, ◌+◌, ◌<◌, List, [], ◌∷◌, ◌++◌, length, get_or, take, Option, Some, sym, ap, ◌∙◌, subst, arith}
use Rattle.std.proofs.lemmas.List.{take_more}
use Rattle.std.specs.declared.net.socket_addr.SocketAddr.{SocketAddr}
use Rattle.toml.specs.Data.{Data, array, Items, no_items, item}
use Rattle.toml.specs.View.{view, items_view}
use Rattle.toml.specs.declared.value.Value.{Value}
use Rattle.snmpsec_gate_config.specs.Values.{IsAddress, AreAddressesIn, AreAddresses}
use Rattle.snmpsec_config.specs.Documents.{values_in}

addresses_push : (vs : List Value) (v : Value) (made : List SocketAddr) (a : SocketAddr) → AreAddressesIn (items_view vs) made → IsAddress (Some (view v)) a → AreAddressesIn (items_view (vs ++ v ∷ [])) (made ++ a ∷ [])
addresses_push [] v [] a h is = (is, tt)
addresses_push [] v (x ∷ made) a h is = absurd h
addresses_push (w ∷ vs) v [] a h is = absurd h
addresses_push (w ∷ vs) v (x ∷ made) a h is = (h.0, addresses_push vs v made a h.1 is)

-- one more
pub addresses_more : (vs : List Value) (i : ℕ) (v : Value) (made : List SocketAddr) (a : SocketAddr) (new : List SocketAddr) → new ≡ made ++ a ∷ []
    → AreAddressesIn (items_view (take i vs)) made → v ≡ get_or vs i v → i < length vs → IsAddress (Some (view v)) a → AreAddressesIn (items_view (take (i + 1) vs)) new
addresses_more vs i v made a new m h is lt of =
    let here : IsAddress (Some (view (get_or vs i v))) a = subst (λ x. IsAddress (Some (view x)) a) is of in
    rw (m, take_more vs i v lt) (addresses_push (take i vs) (get_or vs i v) made a h here)

-- one of the values is no address
pub no_addresses : (vs : List Value) (i : ℕ) (v : Value) → v ≡ get_or vs i v → i < length vs → ((a : SocketAddr) → IsAddress (Some (view v)) a → ⊥) → (made : List SocketAddr) → AreAddressesIn (items_view vs) made → ⊥
no_addresses [] i v is lt none made h = absurd (omega arith)
no_addresses (w ∷ vs) zero v is lt none [] h = absurd h
no_addresses (w ∷ vs) zero v is lt none (a ∷ made) h = none a (subst (λ x. IsAddress (Some (view x)) a) (sym is) h.0)
no_addresses (w ∷ vs) (suc i) v is lt none [] h = absurd h
no_addresses (w ∷ vs) (suc i) v is lt none (a ∷ made) h = no_addresses vs i v is (omega arith) none made h.1

-- values that are no addresses, or none
pub none_empty : (values : Items) (made other : List SocketAddr) → AreAddressesIn values made → length made ≡ 0 → AreAddressesIn values other → 0 < length other → ⊥
none_empty no_items [] [] h none k some = absurd (omega arith)
none_empty no_items [] (a ∷ other) h none k some = absurd k
none_empty no_items (a ∷ made) other h none k some = absurd h
none_empty (item value values) [] other h none k some = absurd h
none_empty (item value values) (a ∷ made) other h none k some = absurd (omega arith)

-- an array whose values are no addresses, or none
pub no_array : (v : Option Data) (values : Items) → v ≡ Some (array values) → ((made : List SocketAddr) → AreAddressesIn values made → 0 < length made → ⊥) → (made : List SocketAddr) → AreAddresses v made → ⊥
no_array v values is none made h =
    let same : h.0 ≡ values = sym (ap values_in h.1) ∙ ap values_in is in
    none made (subst (λ (x : Items). AreAddressesIn x made) same h.2) h.3
