-- How many requests a push may still make, by which its loop ends.
use Rattle.std.specs.Prelude.{ℕ, ◌+◌, ◌-◌, ◌*◌}
use Rattle.upload_push.specs.Steps.{Plan, Stand}
use Rattle.upload_push.specs.Slices.{chunks}
use Rattle.upload_push.specs.declared.pusher.Phase.{Phase}
use Rattle.upload_push.specs.declared.pusher.Phase.TheVariants.{Opening, Sending, Asking, Looking, Done, GaveUp}

-- the most requests that are made between two tries
abbrev pub most_in_try : Plan → ℕ
most_in_try p = chunks p.size p.chunk + 2

-- how many requests come at most from this phase on, before a try is taken
abbrev pub left_in_try : Plan → Phase → ℕ
left_in_try p Opening = most_in_try p
left_in_try p (Sending at offset) = chunks (p.size - offset) p.chunk + 1
left_in_try p (Asking at) = most_in_try p
left_in_try p Looking = 1
left_in_try p (Done outcome) = 0
left_in_try p (GaveUp why) = 0

-- how many requests come at most from here on
abbrev pub asks_left : Plan → Stand → ℕ
asks_left p s = s.tries * most_in_try p + left_in_try p s.phase
