-- The counters that Reports tell: those of RFC 3412, section 5, of targets (RFC 3413, section 4.1.2) and of the
-- user-based security model (RFC 3414, section 5).
--
-- `IsCounter identifier name`.
use Rattle.std.specs.Prelude.{ℕ, List, [], ◌∷◌, codes, Contains}

-- each counter by its identifier, in decimals with dots between, and its name
abbrev pub counters : List (List ℕ × List ℕ)
counters =
    (codes "1.3.6.1.6.3.15.1.1.1.0", codes "usmStatsUnsupportedSecLevels") ∷
    (codes "1.3.6.1.6.3.15.1.1.2.0", codes "usmStatsNotInTimeWindows") ∷
    (codes "1.3.6.1.6.3.15.1.1.3.0", codes "usmStatsUnknownUserNames") ∷
    (codes "1.3.6.1.6.3.15.1.1.4.0", codes "usmStatsUnknownEngineIDs") ∷
    (codes "1.3.6.1.6.3.15.1.1.5.0", codes "usmStatsWrongDigests") ∷
    (codes "1.3.6.1.6.3.15.1.1.6.0", codes "usmStatsDecryptionErrors") ∷
    (codes "1.3.6.1.6.3.11.2.1.1.0", codes "snmpUnknownSecurityModels") ∷
    (codes "1.3.6.1.6.3.11.2.1.2.0", codes "snmpInvalidMsgs") ∷
    (codes "1.3.6.1.6.3.11.2.1.3.0", codes "snmpUnknownPDUHandlers") ∷
    (codes "1.3.6.1.6.3.12.1.4.0", codes "snmpUnavailableContexts") ∷
    (codes "1.3.6.1.6.3.12.1.5.0", codes "snmpUnknownContexts") ∷
    []

-- the counter of this identifier has this name
abbrev pub IsCounter : List ℕ → List ℕ → Type 0
IsCounter identifier name = Contains counters (identifier, name)
