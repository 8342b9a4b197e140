-- What lies behind the pointer is lent to `copy`, and comes back. (Written by tools/walk.)
use Rattle.std.proofs.Common.{ℕ, ℤ, List, [], ◌∷◌, ◌++◌, length, refl, w32}
use Rattle.std.proofs.raw_atomic.Walks.{proved}
use base.Fraction.{full_share}
use base.Logic.{SProp, emp, ex, ex_i, sep, id⊢}
use base.Fml.{ftrue, fsep, flft, flent}
use mir.Syntax.{named}
use mir.Val.{Val, vint, vptr}
use contract.Monad.{fact, fact_i}
use contract.Running.{tables}
use types.Kit.{feq_l, ‵, raw, ◌⊛◌, some, later, prop, ◌$◌, ◌∵◌, !, qed, done, move, keep, drop, use0, use1, use2, use3, split, join, fsplit, fjoin, pick, await, regoal, suffices, group}
use types.SemTy.{Body as Borrowed}
use types.Run.{from, fld, hop, enter, of_opd, addr, stop, no_more, and_then, returns}
use types.Part.{agg, sub, whole}
use types.ByLocal.{look_in_at, get_in, alloc_all, pass_all, free_all, look_at, get, through, sets, lands_as}
use types.Tokens.{lft_new, lft_end}
use prog.Wp.{WpFn}
use denote.Builtin.{u8, u32, usize, i32, RawPtr}
use denote.Exit.{yes}
use denote.RattleType.{owns}
use denote.Lend.{lends_ref, ref_back}
use denote.Memory.{mem}
use denote.Plain.{uint_vals, uint_Tells}
use denote.Signed.{sint_Lawful}
use denote.RawPtr.{Ptr, block_ptr, lies_at, in_a_block, rawptr_vals, rawptr_Tells}
use denote.Ref.{MutRef, mut_vals, mut_Tells}
use denote.Signature.{plain}
use denote.Slice.{MutSlice, slice_val, mut_slice_vals, mut_slice_Tells}
use denote.Steps.{nothing, heard, peeks}
use denote.Laws.{Is, shows}
use denote.Triple.Call.{calls_at}
use denote.Triple.Clauses.{Lasts, lasts}
use denote.Triple.Spec.{triple_of}
use denote.Triple.Table.{framed}
use denote.Triple.Walked.{Stays, walk_of, stay_dropped, Goes-dropped, gave_slice, Goes-gave_slice, gave_ref, Goes-gave_ref, ends_at}
use Rattle.listener_handles.specs.contracts.handle.ListenerHandle as handles
use Rattle.listener_handles.specs.Listeners.{ListenerHeld}
use Rattle.snmp_c.specs.ListenerCalls.{ListenerCopies}
use types.Logic.{sem}
use Rattle.snmp_c.specs.contracts.listener_calls.copy as g
use Rattle.snmp_c.proofs.listener_calls.copy.Met.{met}
use Rattle.snmp_c.specs.contracts.listener.proved_listener_copy as f
use Rattle.snmp_c.proofs.listener.proved_listener_copy.Statement.{statement}
use Rattle.snmp_c.proofs.listener.proved_listener_copy.Code as code

abbrev stayed : Stays f.ended.signature.params f.ended.kept
stayed = (stay_dropped _ yes, (stay_dropped _ yes, (stay_dropped _ yes, (gave_slice (0 ∷ []) tt (plain (λ _. u8)), (gave_ref (1 ∷ []) tt (plain (λ _. usize)), tt)))))

pub proved_listener_copy_spec : {M : Type 1} → statement M
proved_listener_copy_spec 𝓤 𝓛 𝓜 𝓡 wired =
    let c = f.clauses 𝓛 𝓜.mem 𝓡.returns in let W = walk_of 𝓛 f.ended stayed c in let 𝓣 = tables 𝓤 𝓛.H 𝓜 𝓡 𝓡.env in
    let R = handles.the_row in
    proved 𝓛 f.ended stayed c 𝓜 𝓡
    (Goes-dropped 𝓛 2 (plain (λ _. RawPtr)) yes (λ κs x w. refl), (Goes-dropped 𝓛 2 (plain (λ _. u32)) yes (λ κs x w. refl), (Goes-dropped 𝓛 2 (plain (λ _. u32)) yes (λ κs x w. refl), (Goes-gave_slice 𝓛 2 0 tt (plain (λ _. u8)), (Goes-gave_ref 𝓛 2 1 tt (plain (λ _. usize)), tt)))))
    f.Key.name code.function (code.unfolded 𝓤 𝓛.H 𝓜 𝓡 wired)
    (λ κs. (rawptr_vals, (uint_vals w32, (uint_vals w32, (mut_slice_vals, (mut_vals, tt))))))
    (λ κs. (rawptr_Tells, (uint_Tells w32, (uint_Tells w32, (mut_slice_Tells (named 0) κs.0 u8, (mut_Tells (named 1) κs.1.0 usize, tt))))))
    (λ κs qs bounds a marks are.
    let rest : List Val × (List Val × (List Val × (List Val × Unit {0}))) = (uint_vals w32 a.1.0, (uint_vals w32 a.1.1.0, (mut_slice_vals a.1.1.1.0, (mut_vals a.1.1.1.1.0, tt)))) in
    let y : Ptr → W.Ghost = λ p. ((κs, qs, bounds, (p, a.1), (rawptr_vals p, rest)), marks) in
    let Others = owns (u32 ∷ u32 ∷ MutSlice (named 0) κs.0 u8 ∷ MutRef (named 1) κs.1.0 usize ∷ []) a.1 rest in
    let words : List Val = vint w32 a.1.0 ∷ vint w32 a.1.1.0 ∷ slice_val a.1.1.1.0.ref_ptr (length a.1.1.1.0.now) ∷ vptr a.1.1.1.1.0.ref_ptr.0 a.1.1.1.1.0.ref_ptr.1 ∷ [] in
    qed 𝓛 (((‵ (flft κs.0 qs.0) ⊛ (‵ (flft κs.1.0 qs.1.0) ⊛ ‵ ftrue)) ⊛ ‵ (fsep (RawPtr.own_val a.0 (rawptr_vals a.0)) Others)) ∷ ‵ (lies_at R full_share a.0 marks) ∷ []) ∵
    split ! $ move ! (1 ∷ []) $ fsplit ! $ drop ! $ move ! (2 ∷ []) $
    in_a_block ! a.0 (λ p. lies_at R full_share p marks) (id⊢ 𝓤 _) (λ b o e.
    regoal ! (λ p. prop (WpFn 𝓤 𝓛.H 𝓣.C 𝓣.Λ code.function (rawptr_vals p ++ words) (W.post (y p)))) e refl $
    enter ! _ _ _ _ _ $
    alloc_all ! (λ l. pass_all ! refl ((tt, tt), ((tt, record { fits = are.1.0.1 }), ((tt, record { fits = are.1.1.0.1 }), ((tt, (tt, (record { fits = are.1.1.1.0.0.1.0 }, tt))), ((tt, tt), tt))))) $
    sets ! (of_opd ! (get ! refl)) refl (tt, tt) $
    sets ! (addr ! (through ! refl (stop !))) refl (tt, tt) $
    sets ! (addr ! (from ! (fld ! refl (hop ! (look_in_at ! 4 (sub ! 0 refl (whole !))) (stop !))))) refl (tt, tt) $
    sets ! (agg ! (and_then ! (get ! refl) (and_then ! (get_in ! (fld ! refl (stop !)) (sub ! 1 refl (whole !))) (no_more !)))) refl (tt, (tt, (record { fits = are.1.1.1.0.0.1.0 }, tt))) $
    sets ! (addr ! (through ! refl (stop !))) refl (tt, tt) $
    lft_new ! tt (λ α. move ! (1 ∷ []) $
    use1 𝓛 (later (some (λ (γ : ℕ). ‵ ((MutRef (named 0) (α ∷ []) R).own_val (record { ref_ptr = (b, o); ghost_name = γ; now = marks }) (vptr b o ∷ [])) ⊛ ‵ (flent (α ∷ []) (Borrowed (mem R) b o γ)))))
    (lends_ref 𝓛 R (named 0) (α ∷ []) marks b o) $ await ! tt $ pick ! (λ γ. split ! $
    let G = triple_of 𝓛 g.signature (g.spec 𝓛 𝓜.mem 𝓡.returns) in
    let z : G.Ghost = (((α ∷ [], κs), (full_share, qs), tt, (record { ref_ptr = (b, o); ghost_name = γ; now = marks }, a.1), (vptr b o ∷ [], rest)), tt) in
    move ! (0 ∷ 3 ∷ []) $ fjoin ! $ move ! (2 ∷ 3 ∷ []) $ join ! $ join ! $
    nothing ! $ move ! (1 ∷ 0 ∷ []) $ use2 𝓛 (raw (G.pre z)) (id⊢ 𝓤 _) $
    calls_at ! (framed 𝓤 𝓛.H 𝓜 (tables 𝓤 𝓛.H 𝓜 𝓡 𝓡.env)) G (met 𝓤 𝓛 𝓜 𝓡 (code.calls-snmp_c::listener_calls::copy 𝓡.env wired)) z
    (and_then ! (get ! refl) (and_then ! (get ! refl) (and_then ! (get ! refl) (and_then ! (get ! refl) (and_then ! (get ! refl) (no_more !)))))) (λ v.
    use1 𝓛 (later (some (λ (r : ℤ). ((‵ (flft (α ∷ []) full_share) ⊛ (‵ (flft κs.0 qs.0) ⊛ (‵ (flft κs.1.0 qs.1.0) ⊛ ‵ ftrue))) ⊛ ‵ (i32.own_val r (v ∷ []))) ⊛
    some (λ (ws : Lasts g.ended z.0.0 z.0.3). ‵ (lasts g.ended z.0.0 z.0.3 ws) ⊛ raw (fact 𝓤 (ListenerCopies a.1.0 a.1.1.0 a.1.1.1.0.now ws.1.1.1.0 a.1.1.1.1.0.now ws.1.1.1.1.0 marks ws.0 r)))))) (id⊢ 𝓤 _) $
    await ! tt $ pick ! (λ r. split ! $ split ! $ split ! $ lft_end ! tt $
    move ! (2 ∷ []) $ peeks ! i32 (Is i32) (shows 𝓛 i32) r (v ∷ []) (λ is.
    lands_as ! refl refl ((sint_Lawful 𝓛 w32).typed r _ is).0 $
    move ! (3 ∷ []) $ pick ! (λ ws. split ! $ move ! (1 ∷ []) $ heard ! _ (λ learns. fsplit ! $ fsplit ! $
    move ! (4 ∷ 6 ∷ 0 ∷ []) $ use3 𝓛 (later (‵ (lies_at R full_share (block_ptr b o) ws.0))) (ref_back 𝓛 R (α ∷ []) γ ws.0 b o) $ await ! tt $
    returns ! (look_at ! 0 refl) $ free_all ! refl $ keep ! (0 ∷ 2 ∷ 3 ∷ 4 ∷ []) $ move ! (1 ∷ []) $
    fsplit ! $ drop ! $
    fsplit ! $ drop ! $
    fsplit ! $ fsplit ! $ fsplit ! $ move ! (1 ∷ []) $ feq_l ! (λ same3. fjoin ! $ move ! (1 ∷ []) $
    fsplit ! $ move ! (1 ∷ []) $
    -- [nothing; the mutable ones, the last first; what lies there; the result; the tokens]
    move ! (3 ∷ []) $
    let L : ListenerHeld → Type 0 = λ new. ListenerCopies a.1.0 a.1.1.0 a.1.1.1.0.now ws.1.1.1.0 a.1.1.1.1.0.now ws.1.1.1.1.0 marks new r in
    use0 𝓛 (raw (fact 𝓤 (L ws.0))) (fact_i 𝓤 (L ws.0) (emp 𝓤) learns) $ move ! (1 ∷ 0 ∷ []) $
    let Left : ListenerHeld → SProp 𝓤 = λ new. sep 𝓤 (sem 𝓛 (lies_at R full_share (block_ptr b o) new)) (fact 𝓤 (L new)) in
    use2 𝓛 (raw (ex 𝓤 Left)) (ex_i 𝓤 Left ws.0) $
    suffices ! _ (ends_at 𝓛 f.ended stayed c (y (block_ptr b o)) v r (tt, (tt, (tt, (ws.1.1.1.0, (ws.1.1.1.1.0, tt))))) (tt, (tt, (tt, (same3, (tt, tt)))))) $
    move ! (1 ∷ []) $
    move ! (2 ∷ 0 ∷ []) $ fjoin ! $
    move ! (2 ∷ 0 ∷ []) $ fjoin ! $
    nothing ! $ fjoin ! $
    nothing ! $ fjoin ! $
    nothing ! $ fjoin ! $ move ! (3 ∷ 0 ∷ 2 ∷ []) $ group ! 3 $ done !)))))))))))
