-- The same of the code's answers; an auditor need not read it.
use Rattle.std.specs.Prelude.{ℕ, List}
use Rattle.desk_replies.specs.declared.Head.{Head}
use Rattle.desk_replies.specs.declared.Contents.{Contents}
use Rattle.desk_replies.specs.declared.Heard as code
use Rattle.c_desk.specs.Desk.{blank_head, bytes_of}

abbrev pub heard_number : code.Heard → ℕ
heard_number code.Heard.Nothing = 0
heard_number (code.Heard.Request h) = 1
heard_number (code.Heard.Reply h c) = 2
heard_number (code.Heard.Faulty status) = 3
heard_number code.Heard.Refused = 11

abbrev pub heard_head : code.Heard → Head
heard_head code.Heard.Nothing = blank_head 0
heard_head (code.Heard.Request h) = h
heard_head (code.Heard.Reply h c) = h
heard_head (code.Heard.Faulty status) = blank_head status
heard_head code.Heard.Refused = blank_head 0

abbrev pub contents_kind : Contents → ℕ
contents_kind (Contents.Info i) = 1
contents_kind (Contents.Verify crc) = 2
contents_kind Contents.Select = 3
contents_kind Contents.Plain = 0

abbrev pub heard_kind : code.Heard → ℕ
heard_kind code.Heard.Nothing = 0
heard_kind (code.Heard.Request h) = 0
heard_kind (code.Heard.Reply h c) = contents_kind c
heard_kind (code.Heard.Faulty status) = 0
heard_kind code.Heard.Refused = 0

abbrev pub laid_bytes : code.Heard → ℕ → ℕ → List ℕ
laid_bytes h got taken = bytes_of (heard_number h) (heard_head h) (heard_kind h) got taken
