use Rattle.std.proofs.Common.{refl}
use Rattle.snmp_incoming.specs.Outcome.{as_agent}
use Rattle.snmp_outgoing.specs.Requests.{request}
use Rattle.snmp_outgoing.proofs.Spoken.{pair_fits}
use Rattle.snmp_outgoing.proofs.laws.request_is_accepted.Goals as goal

pub returns : goal.returns
returns c = λ senders users engine boots started now held moment id user level front vs salt text fits same runs seals.
    c.spoken_is_accepted.ensures (as_agent engine boots started) senders users now (request held moment id engine user level front vs salt) text
    (record {
      id = fits.id;
      engine = fits.engine;
      pair = pair_fits level held moment fits.pair;
      user = fits.user;
      salt = fits.salt;
      tag = fits.tag;
      numbers = fits.numbers;
      variables = vs;
      bindings = fits.bindings;
      list = refl;
    })
    refl same runs seals
