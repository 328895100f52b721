-- What a worker does after an accept that failed.
use Rattle.std.specs.Prelude.{ℕ, ◌==◌, ◌||◌, Bool, if◌then◌else◌}
use Rattle.blobd_serve.specs.declared.steps.Step.{Step}
use Rattle.blobd_serve.specs.declared.steps.Step.TheVariants.{PassOver, Wait, Stop}

-- Linux's numbers of the errors of an accept that accept(2) advises to try again, since they are those of the
-- connection that waited: EPERM, EINTR, ENONET, EPROTO, ENOPROTOOPT, EOPNOTSUPP, ENETDOWN, ENETUNREACH, ECONNABORTED,
-- ECONNRESET, EHOSTDOWN, EHOSTUNREACH
abbrev pub is_of_connection : ℕ → Bool
is_of_connection error =
    error == 1 || error == 4 || error == 64 || error == 71 || error == 92 || error == 95
    || error == 100 || error == 101 || error == 103 || error == 104 || error == 112 || error == 113

-- those of a descriptor that is no listener: EBADF, EFAULT, EINVAL, ENOTSOCK
abbrev pub is_of_listener : ℕ → Bool
is_of_listener error = error == 9 || error == 14 || error == 22 || error == 88

-- What is done after an accept that failed: an error of a connection is passed over, one of the listener is the end,
-- and all others are waited out, as EMFILE, ENFILE, ENOBUFS and ENOMEM.
abbrev pub step_behind : ℕ → Step
step_behind error =
    if is_of_connection error then PassOver
    else if is_of_listener error then Stop
    else Wait
