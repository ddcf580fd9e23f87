use mathlib.Core.Path.{◌≡◌, ap, ◌∙◌}
use lib.ListN.{length}
use borrow.Author.Rules.{rules}
use Rattle.wire_info.specs.Info.{info_read}
use Rattle.wire_frames.specs.Fields.{data_of}
use Rattle.desk_replies.proofs.Hearing.{is_info, is_verify, is_select, is_plain, info_data, crc_data}
use Rattle.desk_replies.proofs.typed.Goals as goal

pub returns-then-is_sized : goal.returns-then-is_sized
returns-then-is_sized c =
    let a = c.args in
    let e = c.is_sized.ensures in
    let t = c.if-is_sized.true in
    is_info a.cmd a.len (data_of a.f.now) _ e t _
    (c.from_bytes.ensures ∙ ap info_read (c.info_bytes-b.ensures ∙ info_data a.f.now a.cmd a.len _ e t c.requires))

pub returns-then-is_sized-2 : goal.returns-then-is_sized-2
returns-then-is_sized-2 c =
    let a = c.args in
    let e = c.is_sized-2.ensures in
    let t = c.if-is_sized-2.true in
    let l : length a.f.now ≡ 64 = search rules in
    is_verify a.cmd a.len (data_of a.f.now) _ c.is_sized.ensures c.if-is_sized.false _ e t _
    (c.read16.ensures ∙ crc_data a.f.now a.cmd a.len _ e t c.requires l)

pub returns-then-is_id : goal.returns-then-is_id
returns-then-is_id c =
    let a = c.args in
    is_select a.cmd a.len (data_of a.f.now) _ c.is_sized.ensures c.if-is_sized.false _ c.is_sized-2.ensures
    c.if-is_sized-2.false _ c.is_id.ensures c.if-is_id.true

pub returns : goal.returns
returns c =
    let a = c.args in
    is_plain a.cmd a.len (data_of a.f.now) _ c.is_sized.ensures c.if-is_sized.false _ c.is_sized-2.ensures
    c.if-is_sized-2.false _ c.is_id.ensures c.if-is_id.false
