use Rattle.snmp_outgoing.proofs.Accepted.{accepted, accepted_only, late, answered}
use Rattle.snmp_outgoing.proofs.laws.sealed_is_accepted.Goals as goal

pub returns : goal.returns
returns c = λ taker senders users now m s p text is_for runs seals.
    let (v, reads, said) = c.sealed_is_read.ensures senders m text s is_for.fits is_for.model is_for.scoped seals in
    record {
      accepted = accepted taker senders users now m s p text is_for seals v reads said c.one_message.ensures.one c.one_cut.ensures.one c.one_element.ensures.one c.plain_from_data.ensures.scoped (λ auth. c.sealed_is_authentic.ensures senders m text s is_for.fits is_for.model auth is_for.engine_length is_for.scoped seals) (λ privacy plain is. c.sealed_is_opened.ensures senders m text plain v.parts v.fields is_for.fits privacy seals said.outer said.security is) runs;
      accepted_only = accepted_only taker senders users now m s p text is_for seals v reads said c.one_message.ensures.one c.one_cut.ensures.one c.one_element.ensures.one c.plain_from_data.ensures.scoped (λ auth. c.sealed_is_authentic.ensures senders m text s is_for.fits is_for.model auth is_for.engine_length is_for.scoped seals) (λ privacy plain is. c.sealed_is_opened.ensures senders m text plain v.parts v.fields is_for.fits privacy seals said.outer said.security is)
          (c.one_answer.ensures taker users now text) runs;
      late = late taker senders users now m s p text is_for seals v reads said c.one_message.ensures.one c.one_cut.ensures.one c.one_element.ensures.one c.plain_from_data.ensures.scoped (λ auth. c.sealed_is_authentic.ensures senders m text s is_for.fits is_for.model auth is_for.engine_length is_for.scoped seals) (λ privacy plain is. c.sealed_is_opened.ensures senders m text plain v.parts v.fields is_for.fits privacy seals said.outer said.security is) runs;
      only = answered taker senders users now m s p text is_for seals v reads said c.one_message.ensures.one c.one_cut.ensures.one c.one_element.ensures.one c.plain_from_data.ensures.scoped (λ auth. c.sealed_is_authentic.ensures senders m text s is_for.fits is_for.model auth is_for.engine_length is_for.scoped seals) (λ privacy plain is. c.sealed_is_opened.ensures senders m text plain v.parts v.fields is_for.fits privacy seals said.outer said.security is)
          (c.one_answer.ensures taker users now text) runs;
    }
