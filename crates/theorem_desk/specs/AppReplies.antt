-- What the running app means by a reply, of its own numbers, and that the desk hears it (02, E3 and E1). `cap` is the payload capacity, `page` the page size.
use Rattle.std.specs.Prelude.{ℕ, ◌+◌, ◌^◌, ◌≤◌, ◌<◌, ◌≡◌, Bool, true, ◌&&◌, List, [], length, eqb, if◌then◌else◌}
use Rattle.wire_info.specs.declared.InfoData.{InfoData}
use Rattle.wire_frames.specs.declared.frame.Kind.{Kind}
use Rattle.wire_frames.specs.Fields.{cmd_of, Ok}
use Rattle.wire_frames.specs.Stored.{Said, quiet, ended, no_beginning, Read, read_of}
use Rattle.store_record.specs.Record.{baud_of}
use Rattle.device_turns.specs.declared.Turn.{Turn}
use Rattle.device_turns.specs.Turns.{Turned, turn_of}
use Rattle.app_state.specs.declared.AppSetup.{AppSetup}
use Rattle.app_state.specs.State.{AppWorld}
use Rattle.app_dispatcher.specs.Acts.{Replied, id_of, replied_of, resets}
use Rattle.app_client.specs.Feed.{holding, app_fed_of}
use Rattle.theorem_app.specs.Demand.{Good}
use Rattle.desk_replies.specs.Replies.{Typed, info, select, plain, Told, nothing, reply}
use Rattle.theorem_desk.specs.Meant.{head_meant}
use Rattle.theorem_desk.specs.Desk.{Hears}

-- Info: the setup's numbers, the configured app version, mode 1, the record's baud
abbrev pub info_meant : ℕ → AppSetup → AppWorld → InfoData
info_meant cap s w =
    record {
      capacity = s.capacity;
      erase_size = s.erase_size;
      boot_version = s.version;
      app_version = s.app_version;
      mode = 1;
      boot_baud = baud_of w.meta;
      compat = s.key;
      max_payload = cap;
    }

-- the contents of a reply of this status: who was chosen tells its id; an Info that is Ok has contents, and all else has none
abbrev pub contents_meant : ℕ → AppSetup → Bool → ℕ → AppWorld → Typed
contents_meant cap s chosen status w =
    if chosen then select (id_of s) else
    if eqb status Ok && eqb (cmd_of w.state.frame) 0 then info (info_meant cap s w) else
    plain []

abbrev pub replied_by : ℕ → AppSetup → Bool → AppWorld → Replied → Told
replied_by cap s chosen w x = reply (head_meant w.state.frame x.status x.len) (contents_meant cap s chosen x.status w)

-- nothing is meant by silence, nor by a Reset, which the app does not reply to
abbrev pub meant_by : ℕ → AppSetup → Kind → AppWorld → List ℕ → Turn → Told
meant_by cap s kind w f (Turn.Silent why on) = nothing
meant_by cap s kind w f (Turn.Reply chosen on wait) =
    if resets kind chosen f then nothing else replied_by cap s chosen w (replied_of cap s kind chosen f w.meta)

abbrev pub meant_at : ℕ → AppSetup → Kind → AppWorld → Turned → Told
meant_at cap s kind w t = meant_by cap s kind w t.bytes t.turn

-- of a frame that has ended in this way, and stands in the world
unfoldable pub meant_of : ℕ → AppSetup → Kind → AppWorld → Told
meant_of cap s kind w = meant_at cap s kind w (turn_of s.id s.id_len kind w.state.frame w.state.numbers.selected)

-- of a call on the piece l: how the app reads it, and what it then means
abbrev pub read_in : ℕ → AppWorld → List ℕ → Read
read_in cap w l = read_of cap true w.state.frame w.state.numbers.got l

abbrev pub meant_said : Said → ℕ → AppSetup → AppWorld → Told
meant_said quiet cap s w = nothing
meant_said (ended kind) cap s w = meant_of cap s kind w
meant_said no_beginning cap s w = nothing

abbrev pub meant_in : ℕ → AppSetup → AppWorld → List ℕ → Told
meant_in cap s w l = meant_said (read_in cap w l).said cap s (holding (read_in cap w l) w)

-- the numbers are as wide as the code's types have them
pub record Wide (s : AppSetup) : Type 0 where
  pub version : s.version < 256 ^ 2
  pub own : s.app_version < 256 ^ 2
  pub key : s.key < 256 ^ 4
  pub id : length s.id ≡ 16

-- whatever a good app replies to a frame with a command up to 5, in answer 2, a desk that waits hears as what the app means
abbrev pub AppRepliesHeard : ℕ → ℕ → Type 0
AppRepliesHeard cap page =
    (s : AppSetup) (w : AppWorld) (l room : List ℕ) → Good cap page s w → Wide s → 12 + cap ≤ length room →
    (app_fed_of cap page s w l room).told.number ≡ 2 → cmd_of (read_in cap w l).bytes ≤ 5 →
    Hears cap (meant_in cap s w l) (app_fed_of cap page s w l room).told.len (app_fed_of cap page s w l room).room

-- and where it answers 3, nothing is sent
abbrev pub ResetsSilent : ℕ → ℕ → Type 0
ResetsSilent cap page =
    (s : AppSetup) (w : AppWorld) (l room : List ℕ) → Good cap page s w → 12 + cap ≤ length room → (app_fed_of cap page s w l room).told.number ≡ 3 →
    (app_fed_of cap page s w l room).told.len ≡ 0
