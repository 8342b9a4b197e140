-- How long a message is, by the sizes of its parts.
use Rattle.std.specs.Prelude.{ℕ, Bool, ◌+◌, if◌then◌else◌}
use Rattle.snmp_ber.specs.Spelling.{head_size}
use Rattle.snmp_message.specs.declared.header.Header.{Header}
use Rattle.snmp_message.specs.Spelling.{content_size}

-- the content of msgData, by the size of the content of its ScopedPDU, which is in its shortest spelling:
-- where priv is set the ciphertext of the whole ScopedPDU, and else that content itself
abbrev pub data_size : Bool → ℕ → ℕ
data_size privacy size = if privacy then head_size size + size else size

-- a message whose msgSecurityParameters and msgData have contents of these sizes
abbrev pub whole_size : Header → ℕ → ℕ → ℕ
whole_size h security_size content = let size = content_size h security_size content in head_size size + size
