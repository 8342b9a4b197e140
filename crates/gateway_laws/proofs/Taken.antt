-- What a device answers as RFC 3416 says fits what was asked.
use Rattle.std.specs.Prelude.{◌≡◌, ◌++◌, ℕ, List, [], ◌∷◌, Some, MatchOption, length}
use Rattle.std.proofs.Common.{ap, arith, inl, inr, refl, subst, sym, ◌∙◌}
use Rattle.std.proofs.lemmas.Slice.Zip.{AllZip-long}
use Rattle.snmp_msg.specs.Values.{IsSpelledAs, IsValueOf, syntax_of}
use Rattle.snmp_msg.specs.Variables.{Variable, variables_of}
use Rattle.snmp_msg.specs.declared.pdu.Pdu.{Pdu}
use Rattle.snmp_msg.specs.declared.value.Syntax.{Syntax}
use Rattle.snmp_msg.specs.declared.value.Syntax.TheVariants.{EndOfMibView, NoSuchInstance, NoSuchObject}
use Rattle.snmp_responder.specs.Instrumentation.{IsException, Known}
use Rattle.snmp_walk.specs.Answer.{IsAnswered, IsNoError}
use Rattle.snmp_walk.specs.Bindings.{FitsPlace, IsReply, Misfits}
use Rattle.snmp_walk.specs.Dialogue.{Answers, AnswersAll, IsFault, asks_of}
use Rattle.snmp_walk.specs.declared.answer.AnswerFault.{AnswerFault}
use Rattle.snmp_walk.specs.declared.answer.AnswerFault.TheVariants.{AtBinding, TooFew, TooMany}
use Rattle.snmp_walk.specs.declared.misfit.Misfit.{Misfit}
use Rattle.snmp_walk.specs.declared.misfit.Misfit.TheVariants.{NotAfter, NotValue, OtherName}
use Rattle.snmp_walk.specs.declared.operation.ReadOperation.{ReadOperation}
use Rattle.snmp_walk.specs.declared.operation.ReadOperation.TheVariants.{Get, GetNext}
use Rattle.snmp_walk.specs.declared.dialogue.Answered.{Answered}
use Rattle.snmp_walk.specs.declared.dialogue.Answered.TheVariants as answered
use Rattle.snmp_walk.specs.declared.dialogue.Dialogue.{Dialogue}
use Rattle.gateway_laws.specs.Device.{AllSeen, AreAnswered, IsDevice, IsTrueAnswer}
use Rattle.gateway_laws.specs.Device as device_specs

-- an exception without a content is a value of its syntax
spelled_empty : (s : Syntax) (v : Variable) → IsSpelledAs s v.content → syntax_of v.tag ≡ Some s → IsValueOf v.tag v.content
spelled_empty s v spelled is = subst (λ found. MatchOption found ⊥ (λ syntax. IsSpelledAs syntax v.content)) (sym is) spelled

object_is_reply : (name : List ℕ) (v : Variable) → IsException NoSuchObject name v → IsReply v
object_is_reply name v e = record {
  value = spelled_empty NoSuchObject v (ap length e.empty) e.syntax_is;
  not_end = λ end. let no : Some NoSuchObject ≡ Some EndOfMibView = sym e.syntax_is ∙ end in cc;
}

instance_is_reply : (name : List ℕ) (v : Variable) → IsException NoSuchInstance name v → IsReply v
instance_is_reply name v e = record {
  value = spelled_empty NoSuchInstance v (ap length e.empty) e.syntax_is;
  not_end = λ end. let no : Some NoSuchInstance ≡ Some EndOfMibView = sym e.syntax_is ∙ end in cc;
}

module _ (device : Known) (is : IsDevice device) where
  fits : (o : ReadOperation) (name : List ℕ) (v : Variable) → device_specs.IsAnswered device AllSeen o name v → FitsPlace o name v
  fits Get name v (inl a) = (a.named, (is.values v a.there).reply)
  fits Get name v (inr (inl a)) = (a.1.named, instance_is_reply name v a.1)
  fits Get name v (inr (inr a)) = (a.1.named, object_is_reply name v a.1)
  fits GetNext name v (inl next) = inr (next.comes.behind, is.values v next.comes.there)
  fits GetNext name v (inr none) = inl none.1.syntax_is

  all_fit : (asks : List (ReadOperation × List ℕ)) (vs : List Variable) → AreAnswered device AllSeen asks vs → AnswersAll asks vs
  all_fit [] [] all = tt
  all_fit [] (v ∷ vs) all = absurd all
  all_fit (ask ∷ asks) [] all = absurd all
  all_fit (ask ∷ asks) (v ∷ vs) all = (fits ask.0 ask.1 v all.0, all_fit asks vs all.1)

  not_both : (o : ReadOperation) (name : List ℕ) (v : Variable) (misfit : Misfit) → FitsPlace o name v → Misfits o name v misfit → ⊥
  not_both Get name v OtherName fit mis = mis fit.0
  not_both Get name v NotValue fit mis = mis.1 fit.1
  not_both Get name v _ fit mis = mis
  not_both GetNext name v NotAfter fit mis = elim fit [
    | inl end ↦ mis.0 end
    | inr later ↦ mis.1 later.0
  ]
  not_both GetNext name v NotValue fit mis = elim fit [
    | inl end ↦ mis.0 end
    | inr later ↦ mis.2 later.1
  ]
  not_both GetNext name v _ fit mis = mis

  -- behind as many, the next one answers what is asked there
  answers_there : (xs : List (ReadOperation × List ℕ)) (x : ReadOperation × List ℕ) (ys : List (ReadOperation × List ℕ)) (us : List Variable) (u : Variable) (ws : List Variable)
      → AnswersAll xs us → AnswersAll (xs ++ x ∷ ys) (us ++ u ∷ ws) → Answers x u
  answers_there [] x ys [] u ws front all = all.0
  answers_there [] x ys (v ∷ us) u ws front all = absurd front
  answers_there (y ∷ xs) x ys [] u ws front all = absurd front
  answers_there (y ∷ xs) x ys (v ∷ us) u ws front all = answers_there xs x ys us u ws front.1 all.1

  no_fault : (asks : List (ReadOperation × List ℕ)) (vs : List Variable) (fault : AnswerFault) → AnswersAll asks vs → IsFault asks vs fault → ⊥
  no_fault asks vs TooFew all is_fault = omega (arith, AllZip-long Answers asks vs all, is_fault)
  no_fault asks vs TooMany all is_fault = omega (arith, AllZip-long Answers asks vs all, is_fault)
  no_fault asks vs (AtBinding number misfit) all f =
      let split = subst (λ (those : List (ReadOperation × List ℕ)). AnswersAll those (f.before ++ f.variable ∷ f.after)) f.asks_are (subst (AnswersAll asks) f.are all) in
      not_both f.ask.0 f.ask.1 f.variable misfit (answers_there f.asks_before f.ask f.asks_after f.before f.variable f.after f.answered split) f.misfits

  pub is_taken : (Seen : List ℕ → Type 0) (old new : Dialogue) (answer : Pdu) (becomes : Answered) → IsTrueAnswer device (asks_of old.columns.items) answer → IsNoError answer → IsAnswered Seen answer old new becomes → becomes ≡ answered.Taken
  is_taken Seen old new answer answered.Taken truly none step = refl
  is_taken Seen old new answer (answered.Unfit fault) truly none step =
      absurd (no_fault (asks_of old.columns.items) (variables_of answer.list.now) fault (all_fit (asks_of old.columns.items) (variables_of answer.list.now) (truly.answered none)) step.1)
  is_taken Seen old new answer _ truly none step = absurd (step.0 none)
