-- What a conversation added to its transcripts.
use Rattle.std.proofs.Common.{◌≡◌, ℕ, [], ◌++◌, sym, ap, ◌∙◌, append_assoc, arith, rules}
use Rattle.std.proofs.lemmas.List.{append-nil}
use Rattle.http_wire.specs.States.{SinkState}
use Rattle.upload_wire.specs.Conversation.{Moves, ConnectionState, Standing, EndsWith}
use Rattle.upload_wire.specs.Transcripts.{last_written, TranscriptsTellConversations}
use Rattle.upload_wire.specs.declared.connection.ConnEnd.{ConnEnd}

nothing_more : (a b : SinkState) → b ≡ a → b.taken ≡ a.taken ++ []
nothing_more a b e = ap (λ (s : SinkState). s.taken) e ∙ sym (append-nil a.taken)

module _ {D : Type 0} (step : Moves D) (max_body : ℕ) (s : Standing D) (new : ConnectionState D) where
  -- what an end adds
  last_told : (end : ConnEnd) (e : EndsWith step max_body s new end)
      → new.sink.taken ≡ s.sink.taken ++ last_written step max_body s new end e
  last_told end e = search (rules, arith, nothing_more)

pub conversations_told : {D : Type 0} (step : Moves D) → TranscriptsTellConversations step
conversations_told {D} step = search (rules, arith, last_told, append_assoc)
