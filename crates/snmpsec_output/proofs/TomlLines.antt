-- The line for a text that isn't TOML is printed for no other refusal of a configuration.
use Rattle.std.proofs.Common.{◌≡◌, ◌++◌, ℕ, List, None, ap, arith, get_or}
use Rattle.std.specs.Prelude.{IsUtf8, codes}
use Rattle.toml.specs.Parse.{parse_document}
use Rattle.snmpsec_config.specs.declared.fault.ConfigFault.{ConfigFault}
use Rattle.snmpsec_config.specs.declared.fault.ConfigFault.TheVariants as faults
use Rattle.snmpsec_config.specs.declared.table.ConfigTable.TheVariants as tables
use Rattle.snmpsec_config.specs.Refusals.{Refuses, refusal_line}

pub toml_cause : (config : List ℕ) (fault : ConfigFault) → Refuses config fault → refusal_line fault ++ codes "\n" ≡ codes "refused config toml\n" → IsUtf8 config → parse_document config ≡ None
toml_cause config (faults.Toml fault) cause e utf8 = (cause utf8).1
toml_cause config (faults.Nested line column) cause e utf8 = let bad : 110 ≡ 116 = ap (λ (t : List ℕ). get_or t 15 0) e in absurd (omega (arith, bad))
toml_cause config (faults.Top key) cause e utf8 = let bad : 112 ≡ 109 = ap (λ (t : List ℕ). get_or t 17 0) e in absurd (omega (arith, bad))
toml_cause config (faults.BadKey tables.Context position fault) cause e utf8 = let bad : 99 ≡ 116 = ap (λ (t : List ℕ). get_or t 15 0) e in absurd (omega (arith, bad))
toml_cause config (faults.BadKey tables.Group position fault) cause e utf8 = let bad : 103 ≡ 116 = ap (λ (t : List ℕ). get_or t 15 0) e in absurd (omega (arith, bad))
toml_cause config (faults.BadKey tables.Access position fault) cause e utf8 = let bad : 97 ≡ 116 = ap (λ (t : List ℕ). get_or t 15 0) e in absurd (omega (arith, bad))
toml_cause config (faults.BadKey tables.Family position fault) cause e utf8 = let bad : 102 ≡ 116 = ap (λ (t : List ℕ). get_or t 15 0) e in absurd (omega (arith, bad))
toml_cause config (faults.Row tables.Context position wrong) cause e utf8 = let bad : 99 ≡ 116 = ap (λ (t : List ℕ). get_or t 15 0) e in absurd (omega (arith, bad))
toml_cause config (faults.Row tables.Group position wrong) cause e utf8 = let bad : 103 ≡ 116 = ap (λ (t : List ℕ). get_or t 15 0) e in absurd (omega (arith, bad))
toml_cause config (faults.Row tables.Access position wrong) cause e utf8 = let bad : 97 ≡ 116 = ap (λ (t : List ℕ). get_or t 15 0) e in absurd (omega (arith, bad))
toml_cause config (faults.Row tables.Family position wrong) cause e utf8 = let bad : 102 ≡ 116 = ap (λ (t : List ℕ). get_or t 15 0) e in absurd (omega (arith, bad))
toml_cause config faults.OutOfMemory cause e utf8 = let bad : 111 ≡ 114 = ap (λ (t : List ℕ). get_or t 0 0) e in absurd (omega (arith, bad))
toml_cause config _ cause e utf8 = let bad : 117 ≡ 116 = ap (λ (t : List ℕ). get_or t 15 0) e in absurd (omega (arith, bad))
