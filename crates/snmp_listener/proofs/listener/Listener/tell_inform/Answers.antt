use Rattle.std.proofs.Common.{ℕ, List, None, Some, refl, subst, sym, ◌∙◌}
use Rattle.snmp_agent.specs.Agent.{AgentState, AgentTakes}
use Rattle.vacm_core.specs.Tables.{Tables}
use Rattle.snmp_listener.specs.Listening.{IsUnacknowledged, TakesAs, inform, state_of, tag_of}
use Rattle.snmp_listener.specs.Told.{IsNoted, told_now}
use Rattle.snmp_listener.specs.Wanted.{IsUnwanted, IsWanted}
use Rattle.snmp_listener.specs.declared.listener.ListenerTaken.{ListenerTaken}
use Rattle.snmp_listener.specs.declared.told.ToldNote.TheVariants as notes
use Rattle.std.specs.Prelude.{Ok}
use Rattle.snmp_listener.proofs.Somes.{if_ok}
use Rattle.snmp_listener.proofs.Taking.{drops_unfit, unacknowledged_takes}
use Rattle.snmp_listener.proofs.listener.Listener.tell_inform.Goals as goal

pub returns-in-Some-clause-takes : goal.returns-in-Some-clause-takes
returns-in-Some-clause-takes c =
    let a = c.args in
    let g = a.kept in
    rw c.silent_drop.ensures
    (drops_unfit inform (state_of a.self.now) a.now a.from.now a.datagram.now a.salt c.in-Some.why _ (record {
      given = g;
      answers = (c.requires.is, c.requires.accepted, refl);
      unwanted = subst (λ (t : Tables). IsUnwanted a.self.now.rules a.self.now.manager.users t (tag_of inform) a.from.now g c.in-Some.why) c.tables-tables.ensures (subst (λ (n : ℕ). IsUnwanted a.self.now.rules a.self.now.manager.users c.tables-tables.result.now n a.from.now g c.in-Some.why) c.tag-tag.ensures.value c.in-Some.ensures);
      notes = refl;
    }))

pub returns-in-Err-clause-takes : goal.returns-in-Err-clause-takes
returns-in-Err-clause-takes c =
    let a = c.args in
    let g = a.kept in
    let agent = a.self.now.agent in
    let same = c.acknowledgement_of_kept.ensures.same in
    if_ok (IsUnacknowledged c.acknowledgement_of_kept.new.agent a.now g a.salt c.in-Err.fault.refusal) (λ (what : ListenerTaken). TakesAs inform (state_of a.self.now) a.now a.from.now a.datagram.now a.salt what _)
    (λ (what : ListenerTaken) is. unacknowledged_takes (state_of a.self.now) _ a.now a.from.now a.datagram.now a.salt g c.in-Err.fault.refusal what
    (record {
      answers = (c.requires.is, subst (λ (s : AgentState). AgentTakes agent a.now a.datagram.now (Some (Ok g)) s) (sym (c.refuse_inform.ensures.same ∙ same)) c.requires.accepted, refl);
      wanted = subst (λ (t : Tables). IsWanted a.self.now.rules a.self.now.manager.users t (tag_of inform) a.from.now g) c.tables-tables.ensures (subst (λ (n : ℕ). IsWanted a.self.now.rules a.self.now.manager.users c.tables-tables.result.now n a.from.now g) c.tag-tag.ensures.value c.in_default.ensures);
    })
    refl c.in-Err.ensures.answer (subst (λ (s : AgentState). IsUnacknowledged s a.now g a.salt c.in-Err.fault.refusal what) same is))
    c.refuse_inform.result c.refuse_inform.ensures.ok

pub returns-in-New-clause-takes : goal.returns-in-New-clause-takes
returns-in-New-clause-takes c =
    let a = c.args in
    let g = a.kept in
    let most = a.self.now.rules.most in
    let old = a.self.now.told.list.items in
    let new = c.note.new.self.list.items in
    record {
      fit = record {
        answers = (c.requires.is, subst (λ (s : AgentState). AgentTakes a.self.now.agent a.now a.datagram.now (Some (Ok g)) s) (sym c.acknowledgement_of_kept.ensures.same) c.requires.accepted, refl);
        wanted = subst (λ (t : Tables). IsWanted a.self.now.rules a.self.now.manager.users t (tag_of inform) a.from.now g) c.tables-tables.ensures (subst (λ (n : ℕ). IsWanted a.self.now.rules a.self.now.manager.users c.tables-tables.result.now n a.from.now g) c.tag-tag.ensures.value c.in_default.ensures);
      };
      answered = c.in-Ok.ensures.answer;
      notes = subst (λ (d : List ℕ). IsNoted a.now a.self.now.manager.clocks most (told_now a.now d None) old new notes.New) c.digest_of-digest.ensures c.in-New.ensures;
    }

pub returns-in-Copy-clause-takes : goal.returns-in-Copy-clause-takes
returns-in-Copy-clause-takes c =
    let a = c.args in
    let g = a.kept in
    let most = a.self.now.rules.most in
    let old = a.self.now.told.list.items in
    let new = c.note.new.self.list.items in (
      g,
      record {
        fit = record {
          answers = (c.requires.is, subst (λ (s : AgentState). AgentTakes a.self.now.agent a.now a.datagram.now (Some (Ok g)) s) (sym c.acknowledgement_of_kept.ensures.same) c.requires.accepted, refl);
          wanted = subst (λ (t : Tables). IsWanted a.self.now.rules a.self.now.manager.users t (tag_of inform) a.from.now g) c.tables-tables.ensures (subst (λ (n : ℕ). IsWanted a.self.now.rules a.self.now.manager.users c.tables-tables.result.now n a.from.now g) c.tag-tag.ensures.value c.in_default.ensures);
        };
        answered = c.in-Ok.ensures.answer;
        notes = subst (λ (d : List ℕ). IsNoted a.now a.self.now.manager.clocks most (told_now a.now d None) old new notes.Copy) c.digest_of-digest.ensures c.in-Copy.ensures;
      },
    )

pub returns-in-NoRoom-clause-takes : goal.returns-in-NoRoom-clause-takes
returns-in-NoRoom-clause-takes c =
    let a = c.args in
    let g = a.kept in
    let most = a.self.now.rules.most in
    let old = a.self.now.told.list.items in
    let new = c.note.new.self.list.items in
    rw c.silent_drop-in-NoRoom.ensures (
      refl,
      (
        g,
        Some c.in-Ok.text,
        record {
          fit = record {
            answers = (c.requires.is, subst (λ (s : AgentState). AgentTakes a.self.now.agent a.now a.datagram.now (Some (Ok g)) s) (sym c.acknowledgement_of_kept.ensures.same) c.requires.accepted, refl);
            wanted = subst (λ (t : Tables). IsWanted a.self.now.rules a.self.now.manager.users t (tag_of inform) a.from.now g) c.tables-tables.ensures (subst (λ (n : ℕ). IsWanted a.self.now.rules a.self.now.manager.users c.tables-tables.result.now n a.from.now g) c.tag-tag.ensures.value c.in_default.ensures);
          };
          answered = c.in-Ok.ensures.answer;
          notes = subst (λ (d : List ℕ). IsNoted a.now a.self.now.manager.clocks most (told_now a.now d None) old new notes.NoRoom) c.digest_of-digest.ensures c.in-NoRoom.ensures;
        },
      ),
    )
