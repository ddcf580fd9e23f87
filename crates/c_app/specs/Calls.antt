-- What the app's calls leave in a C program's buffers, of a setup by value (tinyboot_c/include/tinyboot.h, The app). The order of the refusals is that of their
-- numbers: beside those of the app's feed, a buffer that is no state's (11), and too little room for an answer, which counts as no room (14). `cap` is the
-- payload capacity, `page` the page size.
use Rattle.std.specs.Prelude.{ℕ, ◌+◌, not, List, length, get_or, eqb, ltb, if◌then◌else◌}
use Rattle.laws.specs.Over.{over}
use Rattle.wire_rates.specs.Baud.{rates}
use Rattle.device_replies.specs.Answers.{mute}
use Rattle.app_state.specs.declared.AppSetup.{AppSetup}
use Rattle.app_state.specs.declared.AppState.{AppState}
use Rattle.app_state.specs.State.{AppWorld, new_app}
use Rattle.app_state.specs.Refusals.{app_set_up, app_refusal_of}
use Rattle.app_record.specs.Changes.{Left, leaves, baud_stored}
use Rattle.app_record.specs.Reads.{Found, rate_of, place_of}
use Rattle.app_client.specs.Feed.{Called, app_fed_of}
use Rattle.c_layout.specs.Layout.{answer_size, answer_bytes, answered}
use Rattle.c_start.specs.Start.{AfterNew, after_new}
use Rattle.c_app.specs.App.{app_state_size, holds_app, app_from, app_bytes}

-- a feed: its result, and each buffer after it
pub record AfterApp : Type 0 where
  pub result : ℕ
  pub state : List ℕ
  pub meta : List ℕ
  pub reply : List ℕ
  pub answer : List ℕ

abbrev pub after_app : ℕ → List ℕ → List ℕ → List ℕ → List ℕ → AfterApp
after_app result state meta reply answer = record { result = result; state = state; meta = meta; reply = reply; answer = answer }

-- refused: the number in the answer, and nothing else altered
abbrev pub app_refused : ℕ → List ℕ → List ℕ → List ℕ → List ℕ → AfterApp
app_refused number state meta reply answer = after_app number state meta reply (answered (mute number) 0 answer)

-- the refusal where there is no room for an answer: as with none for a reply
abbrev pub app_roomless : ℕ → ℕ → AppSetup → AppState → ℕ → ℕ
app_roomless cap page s st meta = app_refusal_of cap page s st.frame st.numbers meta 0

-- the world that the buffers hold
abbrev pub app_world_from : ℕ → List ℕ → List ℕ → AppWorld
app_world_from cap state meta = record { state = app_from cap state; meta = meta }

-- what the app's call left, in the buffers
abbrev pub app_called : Called → List ℕ → AfterApp
app_called c answer =
    after_app c.told.number (app_bytes c.left.state) c.left.meta c.room (over (answer_bytes c.told c.taken) answer)

-- a feed of a setup by value (tinyboot.h, tinyboot_app_feed), refused or not
unfoldable pub app_fed_in : ℕ → ℕ → AppSetup → List ℕ → List ℕ → List ℕ → List ℕ → List ℕ → AfterApp
app_fed_in cap page s state bytes meta reply answer =
    if not (app_set_up page s) then app_refused 10 state meta reply answer else
    if not (holds_app cap state) then app_refused 11 state meta reply answer else
    if ltb (length answer) answer_size then app_refused (app_roomless cap page s (app_from cap state) (length meta)) state meta reply answer else
    app_called (app_fed_of cap page s (app_world_from cap state meta) bytes reply) answer

-- a new state (tinyboot.h, tinyboot_app_new_state); a buffer of another length stays as it is
unfoldable pub c_app_new : ℕ → List ℕ → AfterNew
c_app_new cap state = if not (eqb (length state) (app_state_size cap)) then after_new 11 state else after_new 0 (app_bytes (new_app cap))

-- a rate's index is below 14 (01, Record, flash, start); any other is 10, tried before the record
unfoldable pub c_set_baud : List ℕ → ℕ → Left
c_set_baud meta index = if not (ltb index 14) then leaves 10 meta else baud_stored meta index

-- bits per second of the rate that was found, or 13
abbrev pub hz_told : Found → ℕ
hz_told x = if eqb x.number 0 then get_or rates x.value 0 else x.number

unfoldable pub c_baud : List ℕ → ℕ → ℕ
c_baud meta default = if not (ltb default 14) then 10 else hz_told (rate_of meta default)

-- the byte that was found, or 256 + 13
abbrev pub place_told : Found → ℕ
place_told x = if eqb x.number 0 then x.value else 256 + x.number

abbrev pub c_position : List ℕ → ℕ
c_position meta = place_told (place_of meta)
