-- Every row of the app's table, computed from the rules.
use mathlib.Core.Path.{◌≡◌, refl}
use Rattle.device_feed.proofs.Rules.{frame_rules}
use Rattle.app_record.specs.Changes.{baud_stored}
use Rattle.app_dispatcher.specs.Acts.{replied_of, answered_of, row_kept, reset_of, spoken_of, act_of}
use Rattle.theorem_app.specs.Stream.{stream_of}
use Rattle.theorem_app.specs.Rows.{given, expected, rows}

pub rows_hold : given 52 64 rows ≡ expected rows
unfolding frame_rules stream_of act_of spoken_of reset_of row_kept baud_stored answered_of replied_of
rows_hold = refl
