-- The canonical spelling of a message.
--
-- `message_text`, `security_text`, `scoped_text`, `pdu_text`; `HeaderFits`, `FieldsFit`, `IsOneElement`,
-- `PduFits` are the ranges of what can be written.
use Rattle.std.specs.Prelude.{ℕ, ℤ, pos, ◌+◌, ◌≤◌, if◌then◌else◌, List, [], ◌∷◌, ◌++◌, length}
use Rattle.snmp_ber.specs.Spelling.{head_of, head_size, element, integer}
use Rattle.snmp_ber.specs.declared.number.TheConstants.{MAX_INTEGER32}
use Rattle.snmp_message.specs.Layout.{Parts}
use Rattle.snmp_message.specs.declared.header.Header.{Header}

-- the ranges of a header's fields
pub record HeaderFits (h : Header) : Type 0 where
  pub id : h.id ≤ MAX_INTEGER32
  pub least_size : 484 ≤ h.max_size
  pub most_size : h.max_size ≤ MAX_INTEGER32
  pub least_model : 1 ≤ h.model
  pub most_model : h.model ≤ MAX_INTEGER32

abbrev pub number : ℕ → List ℕ
number n = element 2 (integer (pos n))

abbrev pub signed : ℤ → List ℕ
signed z = element 2 (integer z)

-- the octet of msgFlags
abbrev pub flags_of : Header → ℕ
flags_of h = (if h.auth then 1 else 0) + (if h.privacy then 2 else 0) + (if h.reportable then 4 else 0)

-- the content of msgGlobalData
unfoldable pub header_text : Header → List ℕ
header_text h = number h.id ++ (number h.max_size ++ (element 4 (flags_of h ∷ []) ++ number h.model))

-- the content of a message
unfoldable pub content_text : Header → List ℕ → ℕ → List ℕ → List ℕ
content_text h security tag content = number 3
    ++ (element 48 (header_text h) ++ (element 4 security ++ element tag content))

unfoldable pub message_text : Header → List ℕ → ℕ → List ℕ → List ℕ
message_text h security tag content = element 48 (content_text h security tag content)

-- how many octets the content of a message has, where msgSecurityParameters and msgData have contents of these sizes
abbrev pub content_size : Header → ℕ → ℕ → ℕ
content_size h security_size data_size =
    let header_size = length (header_text h) in
    3 + (head_size header_size + header_size) + (head_size security_size + security_size)
    + (head_size data_size + data_size)

-- what stands in a message before the content of msgSecurityParameters
unfoldable pub front_text : Header → ℕ → ℕ → List ℕ
front_text h size security_size = head_of 48 size
    ++ (number 3 ++ (element 48 (header_text h) ++ head_of 4 security_size))

-- the parts of a message that was written
abbrev pub written : Header → List ℕ → ℕ → List ℕ → Parts
written h security tag content =
    let head = head_of 48 (length (content_text h security tag content)) in
    let front = length head
    + (length (number 3) + (length (element 48 (header_text h)) + length (head_of 4 (length security)))) in
    record {
      header = h;
      security = security;
      data_tag = tag;
      data_content = content;
      security_at = front;
      data_at = front + length security;
    }
