-- The letters of the script's lines.
use Rattle.std.specs.Prelude.{ℕ}
use Rattle.bench.specs.declared.order.Order.{Order}

-- the letter of an order
abbrev pub letter_of : Order → ℕ
letter_of Order.NewBench = 115
letter_of Order.LendFlash = 110
letter_of Order.LendRecord = 99
letter_of Order.LendRoom = 109
letter_of Order.StoreFlash = 102
letter_of Order.StoreRecord = 114
letter_of Order.SetNumber = 112
letter_of Order.StoreFrame = 113
letter_of Order.Start = 98
letter_of Order.Feed = 120
letter_of Order.FeedOnce = 111
letter_of Order.Show = 100
letter_of Order.Text = 116
letter_of Order.Cut = 106
letter_of Order.Early = 101
letter_of Order.RunApp = 97
letter_of Order.Confirm = 107
letter_of Order.StoreRate = 103
letter_of Order.ReadRate = 121
letter_of Order.Mend = 118
letter_of Order.Write = 119
letter_of Order.Hear = 104
letter_of Order.Ask = 117
