-- What a `Census` shows.
use Rattle.std.specs.Prelude.{◌≡◌, ℕ, List, length}
use Rattle.std.specs.List.{fold}
use Rattle.std.specs.Map.{values_of}
use Rattle.upload_service.specs.declared.limits.Limits.{Limits}
use Rattle.upload_service.specs.declared.counts.Counts.{Counts}
use Rattle.upload_records.specs.Census.{Tables, plus, total, after_record}
use Rattle.upload_records.specs.declared.census.Upload.{Upload}
use Rattle.upload_records.specs.declared.census.Census.{Census}

abbrev pub limits_of : Census → Limits
limits_of it = it.limits

abbrev pub tables_of : Census → Tables
tables_of it = record { uploads = it.uploads.entries; blobs = it.blobs.entries; unread = it.unread }

-- a record was noted
pub record Counted (old : Census) (text : List ℕ) (new : Census) : Type 0 where
  pub tables : tables_of new ≡ after_record (limits_of old) (tables_of old) text
  pub limits : limits_of new ≡ limits_of old

-- how many there are, and how many bytes they have
abbrev pub counts_of : Tables → Counts
counts_of t = record {
  blobs = length t.blobs;
  stored = total (values_of t.blobs);
  uploads = length t.uploads;
  received = fold (λ sum (upload : Upload). plus sum upload.received) 0 (values_of t.uploads);
}
