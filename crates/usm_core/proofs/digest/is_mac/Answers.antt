use Rattle.std.proofs.Common.{◌≡◌, ◌+◌, ap, sym, ◌∙◌, ℕ, List, length, take, drop, replicate, ◌++◌}
use Rattle.snmp_message.specs.Message.{parts}
use Rattle.snmp_message.specs.Security.{fields_of}
use Rattle.usm_keys.specs.AuthKey.{AuthKey}
use Rattle.usm_keys.specs.Keys.{kul}
use Rattle.usm_keys.specs.Protocols.{hash_of, mac, mac_octets}
use Rattle.usm_core.proofs.digest.is_mac.Goals as goal

pub returns : goal.returns
returns c =
    let w = c.args.datagram.now in
    let m = parts c.args.message.now in
    let s = fields_of c.args.security.now in
    let key = c.args.key.now in
    let zeros = replicate (length s.auth) 0 in
    let front = take s.auth_at w in
    let back = drop (s.auth_at + length s.auth) w in
    let local = c.args.local.now in
    let pieces = c.cut-pieces.ensures in
    let coded : c.mac-code.result.items ≡ mac local.auth local.octets (front ++ zeros ++ back) =
    c.mac-code.ensures.code ∙ ap (λ (f : List ℕ). mac local.auth local.octets (f ++ zeros ++ c.cut-pieces.result.back.now)) pieces.front ∙ ap (λ (b : List ℕ). mac local.auth local.octets (front ++ zeros ++ b)) pieces.back in
    let code : c.as_slice.result.now ≡ mac key.auth (kul (hash_of key.auth) key.octets s.engine) (front ++ zeros ++ back) =
    c.as_slice.ensures.value ∙ coded ∙ ap (λ (k : AuthKey). mac k.auth k.octets (front ++ zeros ++ back)) c.requires.local in
    let size : length s.auth ≡ _ = c.if-size-mac_octets.false ∙ c.mac_octets.ensures.value in (
      λ right. record {
        front = front;
        back = back;
        cut = c.requires.cut;
        size = size ∙ ap mac_octets c.auth.ensures;
        code = sym (c.are_same.ensures.0 right) ∙ code;
      },
      λ h.
          let places = c.one_cut.ensures.places w m s h.front h.back h.cut in
          let same : s.auth ≡ c.as_slice.result.now = h.code ∙ ap (λ (f : List ℕ). mac key.auth (kul (hash_of key.auth) key.octets s.engine) (f ++ zeros ++ h.back)) places.0 ∙ ap (λ (b : List ℕ). mac key.auth (kul (hash_of key.auth) key.octets s.engine) (front ++ zeros ++ b)) places.2 ∙ sym code in
          c.are_same.ensures.1 (sym same),
    )
