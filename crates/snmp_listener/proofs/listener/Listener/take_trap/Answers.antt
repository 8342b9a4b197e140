use Rattle.std.proofs.Common.{Bool, ℕ, List, None, Option, refl, subst}
use Rattle.std.specs.Prelude.{Result}
use Rattle.snmp_message.specs.Numbers.{MemoryIs}
use Rattle.snmp_incoming.specs.Outcome.{Given}
use Rattle.snmp_manager.specs.Takes.{Takes}
use Rattle.vacm_core.specs.Tables.{Tables}
use Rattle.snmp_listener.specs.Listening.{state_of, tag_of, trap}
use Rattle.snmp_listener.specs.Told.{IsNoted, sender_of, told_now}
use Rattle.snmp_listener.specs.Wanted.{IsUnwanted, IsWanted}
use Rattle.snmp_listener.specs.declared.told.ToldNote.TheVariants as notes
use Rattle.snmp_listener.specs.declared.told.ToldSender.{ToldSender}
use Rattle.snmp_listener.proofs.Taking.{drops_unfit, refused_answer}
use Rattle.snmp_listener.proofs.listener.Listener.take_trap.Goals as goal

pub returns-in-Err-clause-takes : goal.returns-in-Err-clause-takes
returns-in-Err-clause-takes c = λ salt.
    let told = subst (λ (b : Bool). MemoryIs c.in-Err.fault.refusal b) c.if-is_memory.false c.is_memory.ensures in
    rw c.silent_drop.ensures
    (record {
      answers = (c.requires.is, subst (λ (o : Option (Result Given _)). Takes c.args.self.now.manager c.args.now c.args.datagram.now o c.take_kept.new.self) (refused_answer c.in-Err.fault.refusal told) c.in-Err.ensures.takes, refl);
      reports = refl;
      notes = refl;
    })

pub returns-in-Some-clause-takes : goal.returns-in-Some-clause-takes
returns-in-Some-clause-takes c = λ salt.
    let a = c.args in
    let g = c.in-Ok.kept in
    rw c.silent_drop-in-Some.ensures
    (drops_unfit trap (state_of a.self.now) a.now a.from.now a.datagram.now salt c.in-Some.why _ (record {
      given = g;
      answers = (c.requires.is, c.in-Ok.ensures.takes, refl);
      unwanted = subst (λ (t : Tables). IsUnwanted a.self.now.rules c.take_kept.new.self.users t (tag_of trap) a.from.now g c.in-Some.why) c.tables-tables.ensures (subst (λ (n : ℕ). IsUnwanted a.self.now.rules c.take_kept.new.self.users c.tables-tables.result.now n a.from.now g c.in-Some.why) c.tag-tag.ensures.value c.in-Some.ensures);
      notes = refl;
    }))

pub returns-in-New-clause-takes : goal.returns-in-New-clause-takes
returns-in-New-clause-takes c = λ salt.
    let a = c.args in
    let g = c.in-Ok.kept in
    let clocks = c.take_kept.new.self.clocks in
    let most = a.self.now.rules.most in
    let old = a.self.now.told.list.items in
    let new = c.note.new.self.list.items in
    record {
      fit = record {
        answers = (c.requires.is, c.in-Ok.ensures.takes, refl);
        wanted = subst (λ (t : Tables). IsWanted a.self.now.rules c.take_kept.new.self.users t (tag_of trap) a.from.now g) c.tables-tables.ensures (subst (λ (n : ℕ). IsWanted a.self.now.rules c.take_kept.new.self.users c.tables-tables.result.now n a.from.now g) c.tag-tag.ensures.value c.in_default.ensures);
      };
      answered = refl;
      notes =
          subst (λ (d : List ℕ). IsNoted a.now clocks most (told_now a.now d (sender_of g clocks)) old new notes.New) c.digest_of-digest.ensures
          (subst (λ (s : Option ToldSender). IsNoted a.now clocks most (told_now a.now c.digest_of-digest.result s) old new notes.New) c.sender_of_kept-sender.ensures c.in-New.ensures);
    }

pub returns-in-Copy-clause-takes : goal.returns-in-Copy-clause-takes
returns-in-Copy-clause-takes c = λ salt.
    let a = c.args in
    let g = c.in-Ok.kept in
    let clocks = c.take_kept.new.self.clocks in
    let most = a.self.now.rules.most in
    let old = a.self.now.told.list.items in
    let new = c.note.new.self.list.items in (
      g,
      record {
        fit = record {
          answers = (c.requires.is, c.in-Ok.ensures.takes, refl);
          wanted = subst (λ (t : Tables). IsWanted a.self.now.rules c.take_kept.new.self.users t (tag_of trap) a.from.now g) c.tables-tables.ensures (subst (λ (n : ℕ). IsWanted a.self.now.rules c.take_kept.new.self.users c.tables-tables.result.now n a.from.now g) c.tag-tag.ensures.value c.in_default.ensures);
        };
        answered = refl;
        notes =
            subst (λ (d : List ℕ). IsNoted a.now clocks most (told_now a.now d (sender_of g clocks)) old new notes.Copy) c.digest_of-digest.ensures
            (subst (λ (s : Option ToldSender). IsNoted a.now clocks most (told_now a.now c.digest_of-digest.result s) old new notes.Copy) c.sender_of_kept-sender.ensures c.in-Copy.ensures);
      },
    )

pub returns-in-NoRoom-clause-takes : goal.returns-in-NoRoom-clause-takes
returns-in-NoRoom-clause-takes c = λ salt.
    let a = c.args in
    let g = c.in-Ok.kept in
    let clocks = c.take_kept.new.self.clocks in
    let most = a.self.now.rules.most in
    let old = a.self.now.told.list.items in
    let new = c.note.new.self.list.items in
    rw c.silent_drop-in-NoRoom.ensures (
      refl,
      (
        g,
        None,
        record {
          fit = record {
            answers = (c.requires.is, c.in-Ok.ensures.takes, refl);
            wanted = subst (λ (t : Tables). IsWanted a.self.now.rules c.take_kept.new.self.users t (tag_of trap) a.from.now g) c.tables-tables.ensures (subst (λ (n : ℕ). IsWanted a.self.now.rules c.take_kept.new.self.users c.tables-tables.result.now n a.from.now g) c.tag-tag.ensures.value c.in_default.ensures);
          };
          answered = refl;
          notes =
              subst (λ (d : List ℕ). IsNoted a.now clocks most (told_now a.now d (sender_of g clocks)) old new notes.NoRoom) c.digest_of-digest.ensures
              (subst (λ (s : Option ToldSender). IsNoted a.now clocks most (told_now a.now c.digest_of-digest.result s) old new notes.NoRoom) c.sender_of_kept-sender.ensures c.in-NoRoom.ensures);
        },
      ),
    )
