-- What entries come to, as numbers.
use Rattle.std.specs.Prelude.{◌≡◌, ℕ, ◌+◌, ◌-◌, ◌^◌, min, nat_le, nat_lt, not, Bool, List, [], length, filter, Option}
use Rattle.std.specs.Prelude.{Result, Ok, Err, if◌then◌else◌}
use Rattle.std.specs.List.{fold, flat_map}
use Rattle.std.specs.Option.{option_map, unwrap_or}
use Rattle.std.specs.BTreeMap.{insert_entry, is_at}
use Rattle.std.specs.Map.{lookup, remove_entry, values_of}
use Rattle.std.specs.Ordering.{nat_cmp}
use Rattle.std.specs.Cmp.Lexicographic.{slice_cmp}
use Rattle.journal.specs.Format.{Kept}
use Rattle.upload_names.specs.Digest.{Digest, digest_cmp}
use Rattle.upload_service.specs.declared.limits.Limits.{Limits}
use Rattle.upload_journal.specs.declared.body.BodyFile.{BodyFile}
use Rattle.upload_journal.specs.declared.body.KeptBody.{KeptBody}
use Rattle.upload_journal.specs.declared.body.KeptBody.TheVariants.{Here, InFiles}
use Rattle.upload_journal.specs.declared.entries.KeptAsk.{KeptAsk}
use Rattle.upload_journal.specs.declared.entries.KeptAsk.TheVariants.{Opening, Single, Mount, Chunk, Close}
use Rattle.upload_journal.specs.declared.entries.KeptExchange.{KeptExchange}
use Rattle.upload_journal.specs.declared.entries.KeptAnswer.{KeptAnswer}
use Rattle.upload_journal.specs.declared.entries.KeptAnswer.TheVariants.{Begun, Taken, Stored}
use Rattle.upload_journal.specs.declared.entries.Entry.{Entry}
use Rattle.upload_journal.specs.declared.entries.Entry.TheVariants.{Exchange, NumbersUpTo, MomentsUpTo}
use Rattle.upload_journal.specs.declared.fault.EntryFault.{EntryFault}
use Rattle.upload_journal.specs.Entries.{entry_of}
use Rattle.upload_records.specs.declared.census.Upload.{Upload}

-- a sum of numbers of bytes, which stays at 2^64 - 1 once there
abbrev pub plus : ℕ → ℕ → ℕ
plus a b = min (a + b) (2 ^ 64 - 1)

abbrev pub total : List ℕ → ℕ
total sizes = fold plus 0 sizes

-- The open uploads by their references, the sizes of the blobs by their digests, and how many records were no entries.
pub record Tables : Type 0 where
  pub uploads : List (List ℕ × Upload)
  pub blobs : List (Digest × ℕ)
  pub unread : ℕ

abbrev pub nothing : Tables
nothing = record { uploads = []; blobs = []; unread = 0 }

-- how many bytes a body has, as its entry says
abbrev pub body_size : KeptBody → ℕ
body_size (Here body) = length body
body_size (InFiles files) = fold (λ size (file : BodyFile). plus size file.len) 0 files

-- it took nothing for more than `max_idle` seconds
abbrev pub is_idle : ℕ → ℕ → Upload → Bool
is_idle max_idle now upload = nat_lt (upload.seen + max_idle) now

abbrev pub is_awake : ℕ → ℕ → List ℕ × Upload → Bool
is_awake max_idle now entry = not (is_idle max_idle now entry.1)

-- one begins at this moment: if the table is full, the idle ones leave
abbrev pub begun : Limits → ℕ → List ℕ → List (List ℕ × Upload) → List (List ℕ × Upload)
begun limits now at uploads =
    if nat_le limits.max_open (length uploads) then
    filter (is_awake limits.max_idle now) (insert_entry (slice_cmp nat_cmp) uploads at (record { received = 0; seen = now }))
    else insert_entry (slice_cmp nat_cmp) uploads at (record { received = 0; seen = now })

-- what an upload has received
abbrev pub received_of : List ℕ → List (List ℕ × Upload) → ℕ
received_of at uploads =
    unwrap_or (option_map (λ (upload : Upload). upload.received) (lookup (is_at (slice_cmp nat_cmp at)) uploads)) 0

abbrev pub with_blob : Digest → ℕ → Tables → Tables
with_blob digest size t = record t { blobs = insert_entry digest_cmp t.blobs digest size }

-- an upload has received so many bytes now
abbrev pub taken : ℕ → ℕ → KeptAsk → Tables → Tables
taken now next (Opening name) t = t
taken now next (Single name digest body) t = t
taken now next (Mount name digest source) t = t
taken now next (Chunk name at range body) t =
    record t { uploads = insert_entry (slice_cmp nat_cmp) t.uploads at (record { received = next; seen = now }) }
taken now next (Close name at range digest body) t = t

-- A blob stands. One that is mounted stood before.
abbrev pub stored : Digest → KeptAsk → Tables → Tables
stored digest (Opening name) t = t
stored digest (Single name _ body) t = with_blob digest (body_size body) t
stored digest (Mount name _ source) t = t
stored digest (Chunk name at range body) t = t
stored digest (Close name at range _ body) t =
    record (with_blob digest (plus (received_of at t.uploads) (body_size body)) t) {
      uploads = remove_entry (is_at (slice_cmp nat_cmp at)) t.uploads;
    }

-- what an answer tells
abbrev pub told : Limits → ℕ → KeptAsk → KeptAnswer → Tables → Tables
told limits now ask (Begun at) t = record t { uploads = begun limits now at t.uploads }
told limits now ask (Taken next) t = taken now next ask t
told limits now ask (Stored digest) t = stored digest ask t

abbrev pub after_entry : Limits → Entry → Tables → Tables
after_entry limits (Exchange x) t = told limits x.now x.ask x.answer t
after_entry limits (NumbersUpTo number) t = t
after_entry limits (MomentsUpTo moment) t = t

abbrev pub after_read : Limits → Result Entry EntryFault → Tables → Tables
after_read limits (Ok entry) t = after_entry limits entry t
after_read limits (Err fault) t = record t { unread = plus t.unread 1 }

-- what a record makes of the tables
abbrev pub after_record : Limits → Tables → List ℕ → Tables
after_record limits t text = after_read limits (entry_of text) t

-- what the records of batches come to
abbrev pub census_of : Limits → List Kept → Tables
census_of limits all = fold (after_record limits) nothing (flat_map (λ (kept : Kept). kept.1) all)
