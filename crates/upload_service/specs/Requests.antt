-- What a request asks, and how a chunk is turned away.
use Rattle.std.specs.Prelude.{Bool, true, false}
use Rattle.upload_service.specs.declared.ask.Ask.{Ask}
use Rattle.upload_service.specs.declared.ask.Ask.TheVariants.{Chunk}
use Rattle.upload_service.specs.declared.answer.Answer.{Answer}
use Rattle.upload_service.specs.declared.answer.Answer.TheVariants as answers
use Rattle.upload_service.specs.declared.ask.GoneChunk.{GoneChunk}
use Rattle.upload_service.specs.declared.ask.Request.{Request}
use Rattle.upload_service.specs.declared.ask.Request.TheVariants.{Held, Gone}

-- what a chunk would ask with its bytes
abbrev pub chunk_ask : GoneChunk → Ask
chunk_ask chunk = Chunk chunk.name chunk.at chunk.range chunk.body

abbrev pub ask_in : Request → Ask
ask_in (Held ask) = ask
ask_in (Gone chunk) = chunk_ask chunk

-- the answers by which a chunk isn't taken
abbrev pub turns_away : Answer → Bool
turns_away (answers.Refused refusal) = true
turns_away (answers.Misplaced name at next) = true
turns_away answers.NoMemory = true
turns_away other = false
