-- What the calls of the C interface leave (include/tinyboot.h, Calls). The order of the refusals is that of their numbers: beside those of the feed or of the
-- start, a buffer that is no setup's (10), one that is no state's (11), and too little room for an answer, which counts as no room (14).
use Rattle.std.specs.Prelude.{ℕ, not, ◌&&◌, List, length, eqb, ltb, if◌then◌else◌}
use Rattle.laws.specs.Over.{over}
use Rattle.device_state.specs.declared.Setup.{Setup}
use Rattle.device_state.specs.declared.State.{State}
use Rattle.device_state.specs.State.{World}
use Rattle.device_state.specs.Refusals.{set_up, refusal_of}
use Rattle.device_replies.specs.Answers.{mute}
use Rattle.device_feed.specs.Feed.{Called, fed_of}
use Rattle.device_early.specs.Early.{early_of}
use Rattle.device_mend.specs.Mend.{Mending, leaves, mend_of}
use Rattle.c_layout.specs.Layout.{setup_size, answer_size, setup_from, holds_state, state_from, state_bytes, answer_bytes, answered}
use Rattle.c_start.specs.Start.{AfterStart, asked, start_refused, start_in}
use Rattle.c_app.specs.App.{app_setup_size, app_setup_from}
use Rattle.c_app.specs.Calls.{AfterApp, app_refused, app_fed_in}

-- a feed: its result, and each buffer after it
pub record AfterFeed : Type 0 where
  pub result : ℕ
  pub state : List ℕ
  pub flash : List ℕ
  pub meta : List ℕ
  pub reply : List ℕ
  pub answer : List ℕ

abbrev pub after_feed : ℕ → List ℕ → List ℕ → List ℕ → List ℕ → List ℕ → AfterFeed
after_feed result state flash meta reply answer =
    record { result = result; state = state; flash = flash; meta = meta; reply = reply; answer = answer }

-- refused: the number in the answer, and nothing else altered
abbrev pub feed_refused : ℕ → List ℕ → List ℕ → List ℕ → List ℕ → List ℕ → AfterFeed
feed_refused number state flash meta reply answer = after_feed number state flash meta reply (answered (mute number) 0 answer)

-- the refusal where there is no room for an answer: as with none for a reply
abbrev pub roomless : ℕ → ℕ → Setup → State → ℕ → ℕ → ℕ
roomless cap page s st flash meta = refusal_of cap page s st.frame st.numbers flash meta 0

-- what the device's call left, in the buffers
abbrev pub feed_called : Called → List ℕ → AfterFeed
feed_called c answer =
    after_feed c.told.number (state_bytes c.left.state) c.left.flash c.left.meta c.room (over (answer_bytes c.told c.taken) answer)

-- the world that the buffers hold
abbrev pub world_from : ℕ → ℕ → List ℕ → List ℕ → List ℕ → World
world_from cap page state flash meta = record { state = state_from cap page state; flash = flash; meta = meta }

unfoldable pub c_fed : ℕ → ℕ → List ℕ → List ℕ → List ℕ → List ℕ → List ℕ → List ℕ → List ℕ → AfterFeed
c_fed cap page setup state bytes flash meta reply answer =
    if not (eqb (length setup) setup_size && set_up page (setup_from setup)) then feed_refused 10 state flash meta reply answer else
    if not (holds_state cap page state) then feed_refused 11 state flash meta reply answer else
    if ltb (length answer) answer_size then
    feed_refused (roomless cap page (setup_from setup) (state_from cap page state) (length flash) (length meta)) state flash meta reply answer else
    feed_called (fed_of cap page (setup_from setup) (world_from cap page state flash meta) bytes reply) answer

-- a start of the setup that the bytes hold
unfoldable pub c_started : ℕ → ℕ → ℕ → List ℕ → List ℕ → List ℕ → List ℕ → List ℕ → AfterStart
c_started cap page mode setup state flash meta answer =
    if not (eqb (length setup) setup_size) then start_refused 10 state meta answer else
    start_in cap page mode (setup_from setup) state flash meta answer

-- an early answer, of the setup that the bytes hold (02, E11): it alters nothing, so that its result is all of it
unfoldable pub c_early : ℕ → ℕ → List ℕ → List ℕ → ℕ
c_early page mode setup meta = if not (eqb (length setup) setup_size) then 10 else early_of page (setup_from setup) (asked mode) meta

-- a feed of the running app (02, E3), of the setup that the bytes hold
unfoldable pub c_app_fed : ℕ → ℕ → List ℕ → List ℕ → List ℕ → List ℕ → List ℕ → List ℕ → AfterApp
c_app_fed cap page setup state bytes meta reply answer =
    if not (eqb (length setup) app_setup_size) then app_refused 10 state meta reply answer else
    app_fed_in cap page (app_setup_from setup) state bytes meta reply answer

-- a mend (02, E14): its result, how many bytes have changed or the refusal, and each buffer after it
pub record AfterMend : Type 0 where
  pub result : ℕ
  pub meta : List ℕ
  pub list : List ℕ

abbrev pub after_mend : ℕ → List ℕ → List ℕ → AfterMend
after_mend result meta list = record { result = result; meta = meta; list = list }

abbrev pub mend_called : Mending → AfterMend
mend_called x = after_mend (if eqb x.refusal 0 then x.count else x.refusal) x.meta x.list

unfoldable pub c_mended : ℕ → List ℕ → List ℕ → List ℕ → AfterMend
c_mended page setup meta list =
    mend_called (if not (eqb (length setup) setup_size) then leaves 10 0 meta list else mend_of page (setup_from setup) meta list)
