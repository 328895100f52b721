-- What would be kept if nothing is.
use Rattle.std.specs.Prelude.{ℕ, List, ◌++◌, map, Option, option_map}
use Rattle.std.specs.List.{flat_map}
use Rattle.upload_service.specs.Machine.{State}
use Rattle.upload_service.specs.Run.{Exchange}
use Rattle.upload_keeper.specs.Log.{steps_of, exchanges_of}
use Rattle.upload_keeper.specs.declared.unkept.Noted.{Noted}
use Rattle.upload_keeper.specs.declared.unkept.Recorded.{Recorded}
use Rattle.upload_keeper.specs.declared.unkept.NoKeeping.{NoKeeping}
use Rattle.upload_keeper.specs.Safety.{Asked, asked, answered_so, changed}

abbrev pub asked_by : Noted → Asked
asked_by n = asked n.ask.value n.secret n.now

abbrev pub recorded_by : Recorded → Exchange
recorded_by r = answered_so (asked_by r.note) r.answer.value

-- the request that was noted last
abbrev pub noted_by : NoKeeping → Option Asked
noted_by k = option_map asked_by k.noted

abbrev pub start_of : NoKeeping → State
start_of k = k.start.value.value

abbrev pub recorded_in : List Recorded → List Exchange
recorded_in rs = map recorded_by rs

-- what changed before, and then round by round
abbrev pub kept_by : NoKeeping → List Exchange
kept_by k = changed (exchanges_of (steps_of k.before.value)) ++ flat_map recorded_in k.kept

abbrev pub waiting_at : NoKeeping → List Exchange
waiting_at k = recorded_in k.waiting

-- the last moment there is
abbrev pub last_of : NoKeeping → ℕ
last_of k = 18446744073709551615
