-- The limits of the program's service.
use Rattle.upload_service.specs.declared.limits.Limits.{Limits}

-- 16 GiB a blob, 2 GiB a body, 1,024 open sessions, an hour without a chunk
abbrev pub program_limits : Limits
program_limits = record { max_blob = 17179869184; max_body = 2147483648; max_open = 1024; max_idle = 3600 }
