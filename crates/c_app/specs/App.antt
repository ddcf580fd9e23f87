-- Where an app's setup and state stand in the caller's bytes (tinyboot_c/include/tinyboot.h, The app). Numbers of several bytes stand low byte first. `cap` is
-- the payload capacity: the header has it at 52.
use Rattle.std.specs.Prelude.{ℕ, ◌+◌, ◌%◌, Bool, ◌&&◌, List, [], ◌∷◌, ◌++◌, length, get_or, eqb, ltb}
use Rattle.laws.specs.Low.{low_first}
use Rattle.app_state.specs.declared.AppSetup.{AppSetup}
use Rattle.app_state.specs.declared.AppNumbers.{AppNumbers}
use Rattle.app_state.specs.declared.AppState.{AppState}
use Rattle.app_state.specs.State.{state_with, numbered}
use Rattle.c_layout.specs.Layout.{part, flag_byte}

-- how many bytes a setup and a state take
abbrev pub app_setup_size : ℕ
app_setup_size = 33

abbrev pub app_state_size : ℕ → ℕ
app_state_size cap = 12 + cap + 3

-- the setup that 33 bytes stand for: the first 31 as in a bootloader's (c_layout, setup_from), then the app version
abbrev pub app_setup_from : List ℕ → AppSetup
app_setup_from l =
    record {
      erase_size = low_first (part 0 4 l);
      capacity = low_first (part 4 4 l);
      id_len = get_or l 8 0;
      id = part 9 16 l;
      version = low_first (part 25 2 l);
      key = low_first (part 27 4 l);
      app_version = low_first (part 31 2 l);
    }

-- bytes that are a state's: as many, and each flag 0 or 1
unfoldable pub holds_app : ℕ → List ℕ → Bool
holds_app cap l = eqb (length l) (app_state_size cap) && (ltb (get_or l (12 + cap + 1) 0) 2 && ltb (get_or l (12 + cap + 2) 0) 2)

-- the numbers that a state's bytes stand for: behind the frame stand how many of its bytes have begun, selected and closed
abbrev pub app_numbers_from : ℕ → List ℕ → AppNumbers
app_numbers_from cap l = numbered (get_or l (12 + cap) 0) (eqb (get_or l (12 + cap + 1) 0) 1) (eqb (get_or l (12 + cap + 2) 0) 1)

-- the state that these bytes stand for
abbrev pub app_from : ℕ → List ℕ → AppState
app_from cap l = state_with (part 0 (12 + cap) l) (app_numbers_from cap l)

-- a state's numbers, in 3 bytes: of the bytes begun the low byte, which in a well-formed state is all of it
abbrev pub app_number_bytes : AppNumbers → List ℕ
app_number_bytes n = n.got % 256 ∷ flag_byte n.selected ∷ flag_byte n.closed ∷ []

-- the bytes of a state: the frame's, the numbers'
abbrev pub app_bytes : AppState → List ℕ
app_bytes s = s.frame ++ app_number_bytes s.numbers
