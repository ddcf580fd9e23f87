-- The rows, computed.
use mathlib.Core.Path.{refl}
use Rattle.desk_captures.specs.Captures.{front_of, next_at, read_from, alike, compared, compare_of}
use Rattle.theorem_captures.specs.Rows.{found_rows, compared_rows, AllFound, AllCompared}

pub found_rows_lem : AllFound found_rows
unfolding next_at front_of
found_rows_lem = (
  (refl, refl),
  (
    (refl, refl),
    (
      (refl, refl),
      (
        (refl, refl),
        (
          (refl, refl),
          (
            (refl, refl),
            (
              (refl, refl),
              ((refl, refl), ((refl, refl), ((refl, refl), tt))),
            ),
          ),
        ),
      ),
    ),
  ),
)

pub compared-rows : AllCompared compared_rows
unfolding compare_of compared read_from front_of alike
compared-rows = (refl, (refl, (refl, (refl, (refl, (refl, (refl, (refl, (refl, (refl, (refl, (refl, (refl, tt)))))))))))))
