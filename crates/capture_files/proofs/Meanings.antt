-- What a block doesn't mean.
use Rattle.std.proofs.Common.{◌≡◌, ℕ, List, Option, subst}
use Rattle.capture_files.specs.Items.{Record}
use Rattle.capture_files.specs.Pcapng.{InSection, IsInterface, IsPacket, Means, MeansAs, block_kind}
use Rattle.capture_files.specs.declared.field.Order.{Order}
use Rattle.capture_files.specs.declared.interface.Interface.{Interface}
use Rattle.capture_files.specs.declared.pcapng.Kind.TheVariants as kind

pub no_interface : (s : InSection) (order : Order) (front : List ℕ) (size : ℕ) → block_kind order front ≡ kind.Interface
    → ((i : Interface) → IsInterface order front size i → ⊥) → (r : Option Record) (q : InSection) → Means s order front size r q → ⊥
no_interface s order front size is none r q means =
    let m = subst (λ k. MeansAs k s order front size r q) is means in none m.0 m.1

pub no_packet : (s : InSection) (order : Order) (front : List ℕ) (size : ℕ) → block_kind order front ≡ kind.Packet
    → ((r : Record) → IsPacket s order front size r → ⊥) → (r : Option Record) (q : InSection) → Means s order front size r q → ⊥
no_packet s order front size is none r q means =
    let m = subst (λ k. MeansAs k s order front size r q) is means in none m.0 m.1
