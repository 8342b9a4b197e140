-- What lies behind the pointer is lent to `clear`, and comes back. (Written by tools/walk.)
use Rattle.std.proofs.Common.{ℕ, ℤ, List, [], ◌∷◌, ◌++◌, refl, w32}
use Rattle.std.proofs.raw_atomic.Walks.{proved}
use base.Fraction.{full_share}
use base.Logic.{SProp, emp, ex, ex_i, sep, id⊢}
use base.Fml.{ftrue, fsep, flft, flent}
use mir.Syntax.{named}
use mir.Val.{Val, vptr}
use contract.Monad.{fact, fact_i}
use contract.Running.{tables}
use types.Kit.{‵, raw, ◌⊛◌, some, later, prop, ◌$◌, ◌∵◌, !, qed, done, move, keep, drop, use0, use1, use2, use3, split, join, fsplit, fjoin, pick, await, regoal, suffices, group}
use types.SemTy.{Body as Borrowed}
use types.Run.{enter, of_opd, addr, stop, no_more, and_then, returns}
use types.ByLocal.{alloc_all, pass_all, free_all, look_at, get, through, sets, lands_as}
use types.Tokens.{lft_new, lft_end}
use prog.Wp.{WpFn}
use denote.Builtin.{i32, RawPtr}
use denote.Exit.{yes}
use denote.RattleType.{owns}
use denote.Lend.{lends_ref, ref_back}
use denote.Memory.{mem}
use denote.Signed.{sint_Lawful}
use denote.RawPtr.{Ptr, block_ptr, lies_at, in_a_block, rawptr_vals, rawptr_Tells}
use denote.Ref.{MutRef}
use denote.Signature.{plain}
use denote.Steps.{nothing, heard, peeks}
use denote.Laws.{Is, shows}
use denote.Triple.Call.{calls_at}
use denote.Triple.Clauses.{Lasts, lasts}
use denote.Triple.Spec.{triple_of}
use denote.Triple.Table.{framed}
use denote.Triple.Walked.{Stays, walk_of, stay_dropped, Goes-dropped, ends_at}
use Rattle.listener_handles.specs.contracts.handle.ListenerHandle as handles
use Rattle.listener_handles.specs.Listeners.{ListenerHeld}
use Rattle.snmp_c.specs.ListenerCalls.{ClearsListener}
use types.Logic.{sem}
use Rattle.snmp_c.specs.contracts.listener_calls.clear as g
use Rattle.snmp_c.proofs.listener_calls.clear.Met.{met}
use Rattle.snmp_c.specs.contracts.listener.proved_listener_clear as f
use Rattle.snmp_c.proofs.listener.proved_listener_clear.Statement.{statement}
use Rattle.snmp_c.proofs.listener.proved_listener_clear.Code as code

abbrev stayed : Stays f.ended.signature.params f.ended.kept
stayed = (stay_dropped _ yes, tt)

pub proved_listener_clear_spec : {M : Type 1} → statement M
proved_listener_clear_spec 𝓤 𝓛 𝓜 𝓡 wired =
    let c = f.clauses 𝓛 𝓜.mem 𝓡.returns in let W = walk_of 𝓛 f.ended stayed c in let 𝓣 = tables 𝓤 𝓛.H 𝓜 𝓡 𝓡.env in
    let R = handles.the_row in
    proved 𝓛 f.ended stayed c 𝓜 𝓡
    (Goes-dropped 𝓛 0 (plain (λ _. RawPtr)) yes (λ κs x w. refl), tt)
    f.Key.name code.function (code.unfolded 𝓤 𝓛.H 𝓜 𝓡 wired)
    (λ κs. (rawptr_vals, tt))
    (λ κs. (rawptr_Tells, tt))
    (λ κs qs bounds a marks are.
    let rest : Unit {0} = tt in
    let y : Ptr → W.Ghost = λ p. ((κs, qs, bounds, (p, a.1), (rawptr_vals p, rest)), marks) in
    let Others = owns ([]) a.1 rest in
    let words : List Val = [] in
    qed 𝓛 ((‵ ftrue ⊛ ‵ (fsep (RawPtr.own_val a.0 (rawptr_vals a.0)) Others)) ∷ ‵ (lies_at R full_share a.0 marks) ∷ []) ∵
    split ! $ move ! (1 ∷ []) $ fsplit ! $ drop ! $ move ! (2 ∷ []) $
    in_a_block ! a.0 (λ p. lies_at R full_share p marks) (id⊢ 𝓤 _) (λ b o e.
    regoal ! (λ p. prop (WpFn 𝓤 𝓛.H 𝓣.C 𝓣.Λ code.function (rawptr_vals p ++ words) (W.post (y p)))) e refl $
    enter ! _ _ _ _ _ $
    alloc_all ! (λ l. pass_all ! refl ((tt, tt), tt) $
    sets ! (of_opd ! (get ! refl)) refl (tt, tt) $
    sets ! (addr ! (through ! refl (stop !))) refl (tt, tt) $
    lft_new ! tt (λ α. move ! (1 ∷ []) $
    use1 𝓛 (later (some (λ (γ : ℕ). ‵ ((MutRef (named 0) (α ∷ []) R).own_val (record { ref_ptr = (b, o); ghost_name = γ; now = marks }) (vptr b o ∷ [])) ⊛ ‵ (flent (α ∷ []) (Borrowed (mem R) b o γ)))))
    (lends_ref 𝓛 R (named 0) (α ∷ []) marks b o) $ await ! tt $ pick ! (λ γ. split ! $
    let G = triple_of 𝓛 g.signature (g.spec 𝓛 𝓜.mem 𝓡.returns) in
    let z : G.Ghost = (((α ∷ [], κs), (full_share, qs), tt, (record { ref_ptr = (b, o); ghost_name = γ; now = marks }, a.1), (vptr b o ∷ [], rest)), tt) in
    move ! (0 ∷ 3 ∷ []) $ fjoin ! $ move ! (2 ∷ 3 ∷ []) $ join ! $ join ! $
    nothing ! $ move ! (1 ∷ 0 ∷ []) $ use2 𝓛 (raw (G.pre z)) (id⊢ 𝓤 _) $
    calls_at ! (framed 𝓤 𝓛.H 𝓜 (tables 𝓤 𝓛.H 𝓜 𝓡 𝓡.env)) G (met 𝓤 𝓛 𝓜 𝓡 (code.calls-snmp_c::listener_calls::clear 𝓡.env wired)) z
    (and_then ! (get ! refl) (no_more !)) (λ v.
    use1 𝓛 (later (some (λ (r : ℤ). ((‵ (flft (α ∷ []) full_share) ⊛ ‵ ftrue) ⊛ ‵ (i32.own_val r (v ∷ []))) ⊛
    some (λ (ws : Lasts g.ended z.0.0 z.0.3). ‵ (lasts g.ended z.0.0 z.0.3 ws) ⊛ raw (fact 𝓤 (ClearsListener marks ws.0 r)))))) (id⊢ 𝓤 _) $
    await ! tt $ pick ! (λ r. split ! $ split ! $ split ! $ lft_end ! tt $
    move ! (2 ∷ []) $ peeks ! i32 (Is i32) (shows 𝓛 i32) r (v ∷ []) (λ is.
    lands_as ! refl refl ((sint_Lawful 𝓛 w32).typed r _ is).0 $
    move ! (3 ∷ []) $ pick ! (λ ws. split ! $ move ! (1 ∷ []) $ heard ! _ (λ learns. fsplit ! $ fsplit ! $
    move ! (4 ∷ 6 ∷ 0 ∷ []) $ use3 𝓛 (later (‵ (lies_at R full_share (block_ptr b o) ws.0))) (ref_back 𝓛 R (α ∷ []) γ ws.0 b o) $ await ! tt $
    returns ! (look_at ! 0 refl) $ free_all ! refl $ keep ! (0 ∷ 2 ∷ 3 ∷ 4 ∷ []) $ move ! (1 ∷ []) $
    -- [nothing; the mutable ones, the last first; what lies there; the result; the tokens]
    move ! (1 ∷ []) $
    let L : ListenerHeld → Type 0 = λ new. ClearsListener marks new r in
    use0 𝓛 (raw (fact 𝓤 (L ws.0))) (fact_i 𝓤 (L ws.0) (emp 𝓤) learns) $ move ! (1 ∷ 0 ∷ []) $
    let Left : ListenerHeld → SProp 𝓤 = λ new. sep 𝓤 (sem 𝓛 (lies_at R full_share (block_ptr b o) new)) (fact 𝓤 (L new)) in
    use2 𝓛 (raw (ex 𝓤 Left)) (ex_i 𝓤 Left ws.0) $
    suffices ! _ (ends_at 𝓛 f.ended stayed c (y (block_ptr b o)) v r (tt, tt) (tt, tt)) $
    move ! (1 ∷ []) $
    nothing ! $ fjoin ! $ move ! (3 ∷ 0 ∷ 2 ∷ []) $ group ! 3 $ done !))))))))))
