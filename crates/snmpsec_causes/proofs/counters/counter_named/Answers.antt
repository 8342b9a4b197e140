use Rattle.std.proofs.Common.{◌<◌, ℕ, List, ap, arith, codes, sym}
use Rattle.snmpsec_causes.proofs.counters.counter_named.Goals as goal

pub returns-in-text-3-clause-found : goal.returns-in-text-3-clause-found
returns-in-text-3-clause-found c =
    let within : 2 < 11 = omega arith in
    (2, within, ap (λ (i : List ℕ). (i, codes "usmStatsUnknownUserNames")) (sym c.in-text-3.is))

pub returns-in-text-4-clause-found : goal.returns-in-text-4-clause-found
returns-in-text-4-clause-found c =
    let within : 3 < 11 = omega arith in
    (3, within, ap (λ (i : List ℕ). (i, codes "usmStatsUnknownEngineIDs")) (sym c.in-text-4.is))

pub returns-in-text-5-clause-found : goal.returns-in-text-5-clause-found
returns-in-text-5-clause-found c =
    let within : 4 < 11 = omega arith in
    (4, within, ap (λ (i : List ℕ). (i, codes "usmStatsWrongDigests")) (sym c.in-text-5.is))

pub returns-in-text-6-clause-found : goal.returns-in-text-6-clause-found
returns-in-text-6-clause-found c =
    let within : 5 < 11 = omega arith in
    (5, within, ap (λ (i : List ℕ). (i, codes "usmStatsDecryptionErrors")) (sym c.in-text-6.is))

pub returns-in-text-7-clause-found : goal.returns-in-text-7-clause-found
returns-in-text-7-clause-found c =
    let within : 6 < 11 = omega arith in
    (6, within, ap (λ (i : List ℕ). (i, codes "snmpUnknownSecurityModels")) (sym c.in-text-7.is))

pub returns-in-text-8-clause-found : goal.returns-in-text-8-clause-found
returns-in-text-8-clause-found c =
    let within : 7 < 11 = omega arith in
    (7, within, ap (λ (i : List ℕ). (i, codes "snmpInvalidMsgs")) (sym c.in-text-8.is))

pub returns-in-text-9-clause-found : goal.returns-in-text-9-clause-found
returns-in-text-9-clause-found c =
    let within : 8 < 11 = omega arith in
    (8, within, ap (λ (i : List ℕ). (i, codes "snmpUnknownPDUHandlers")) (sym c.in-text-9.is))

pub returns-in-text-10-clause-found : goal.returns-in-text-10-clause-found
returns-in-text-10-clause-found c =
    let within : 9 < 11 = omega arith in
    (9, within, ap (λ (i : List ℕ). (i, codes "snmpUnavailableContexts")) (sym c.in-text-10.is))
