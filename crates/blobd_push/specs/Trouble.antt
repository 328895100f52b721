-- What goes wrong with a push, and the words for it.
use Rattle.std.specs.Prelude.{ℕ, ◌+◌, ◌-◌, ◌^◌, min, ◌==◌, ◌&&◌, ◌||◌, nat_eq, nat_le, Bool, false, true, List}
use Rattle.std.specs.Prelude.{◌∷◌, codes, Option, Some, None, option_map, is_some, if◌then◌else◌}
use Rattle.std.specs.List.{starts_with}
use Rattle.std.specs.Option.{option_or}
use Rattle.upload_client.specs.declared.heard.Heard.{Heard}
use Rattle.upload_push.specs.declared.pusher.Why.{Why}
use Rattle.upload_push.specs.declared.pusher.Why.TheVariants.{Refused, BadServer, OutOfTries}
use Rattle.blobd_push.specs.declared.trouble.Advice.{Advice}
use Rattle.blobd_push.specs.declared.trouble.Advice.TheVariants.{IsItHttps, NoLogin, OtherLogin, PushAgain, State, IsItARegistry}
use Rattle.blobd_push.specs.declared.trouble.Advice.TheVariants.{NoRegistry, Adapter, GoThere}
use Rattle.blobd_push.specs.declared.trouble.Course.{Course}
use Rattle.blobd_push.specs.declared.trouble.Kind.{Kind}
use Rattle.blobd_push.specs.declared.trouble.Kind.TheVariants.{Stateful}
use Rattle.blobd_push.specs.declared.trouble.Reason.{Reason}
use Rattle.blobd_push.specs.declared.trouble.Reason.TheVariants.{Advised, Lost}
use Rattle.blobd_push.specs.declared.trouble.Trouble.{Trouble}
use Rattle.blobd_push.specs.declared.trouble.Trouble.TheVariants.{NoReply, NoConnection, System, Silence, Closed, Cut, Tls}
use Rattle.blobd_push.specs.declared.trouble.Trouble.TheVariants.{NotHttp, Unavailable, Misplaced}

-- a record of TLS begins with its kind, 20 to 23, and a version whose first byte is 3 (RFC 8446, section 5.1)
abbrev pub is_tls : List ℕ → Bool
is_tls (kind ∷ version ∷ rest) = nat_le 20 kind && nat_le kind 23 && version == 3
is_tls _ = false

-- the bytes are those that a reply of HTTP begins with, as far as they go
abbrev pub is_http : List ℕ → Bool
is_http bytes = starts_with nat_eq bytes (codes "HTTP/") || starts_with nat_eq (codes "HTTP/") bytes

-- bytes that begin as a reply of a server that can't serve now
abbrev pub is_unavailable : List ℕ → Bool
is_unavailable bytes = starts_with nat_eq bytes (codes "HTTP/1.1 503 ")

-- what is wrong with the first bytes that a server sends
abbrev pub trouble_in : List ℕ → Option Trouble
trouble_in bytes = if is_tls bytes then Some Tls else if is_http bytes then None else Some NotHttp

-- Linux's number of an error; EAGAIN is that of a read or a write that no byte moved in time, and a connection that
-- wasn't made in time has none
abbrev pub error_trouble : Option ℕ → Trouble
error_trouble None = NoConnection
error_trouble (Some number) = if number == 11 then Silence else System number

-- the first trouble of a request is what went wrong with it, unless its server can't serve now
abbrev pub first_trouble : Trouble → Trouble → Trouble
first_trouble NoReply new = new
first_trouble before Unavailable = Unavailable
first_trouble before new = before

-- nothing was asked yet
abbrev pub new_course : Course
new_course = record { losses = 0; opened = false }

-- one request more took a try; the count stops at 2^64 - 1
abbrev pub lost : Course → Course
lost c = record { losses = min (c.losses + 1) (2 ^ 64 - 1); opened = c.opened }

-- How the requests of a push went once this was heard to one more: nothing, 503 and 416 take a try, and a 202 opened an
-- upload.
abbrev pub course_after : Option Heard → Course → Course
course_after None c = lost c
course_after (Some h) c =
    if h.status == 503
    || h.status == 416 then lost c else record { losses = c.losses; opened = c.opened || h.status == 202 }

-- the words for a trouble
abbrev pub words_of : Trouble → List ℕ
words_of NoReply = codes "no reply of a form that is read"
words_of (System number) = codes "no reply of a form that is read"
words_of NoConnection = codes "no connection within 10 s"
words_of Silence = codes "the server was silent for 30 s"
words_of Closed = codes "the server closed the connection before it had replied: is this https?"
words_of Cut =
    codes
    "the server ended the connection before it had replied: it was ended itself, or it is full: see what it says on its standard error"
words_of Tls = codes "the reply is TLS: is this https? A push speaks plain HTTP"
words_of NotHttp = codes "the reply isn't HTTP: is this https?"
words_of Unavailable =
    codes
    "the server answers 503: it has no room (raise its BLOBD_MEMORY, or make room on its disk), or it is a reverse proxy with no server behind it"
words_of Misplaced = codes "the server answers 416: does another client write into the upload?"

-- what is wrong with a reply of this status, if it takes a try
abbrev pub status_trouble : ℕ → Option Trouble
status_trouble status = if status == 503 then Some Unavailable else if status == 416 then Some Misplaced else None

-- what to do about a reply to a request of an upload: a server that wants a state finds none without it
abbrev pub advice_within : ℕ → Kind → Option Advice
advice_within status Stateful = if status == 400 || status == 404 then Some State else None
advice_within status kind = if status == 404 then Some PushAgain else None

-- what to do about a reply to the opening of an upload: a registry that takes none says why by an error code
abbrev pub advice_at_opening : ℕ → Bool → Option Advice
advice_at_opening status coded =
    if status == 404 then Some IsItARegistry
    else if coded then None
    else if nat_le 200 status && nat_le status 299 || status == 405 || status == 501 then Some NoRegistry
    else None

-- who is told to have another login: who runs the adapter, or who pushes
abbrev pub login_advice : Kind → Advice
login_advice Kind.Adapter = OtherLogin
login_advice kind = NoLogin

-- what to do about a reply of this status, whatever was asked
abbrev pub advice_anywhere : ℕ → Bool → Kind → Option Advice
advice_anywhere status coded kind =
    if nat_le 300 status && nat_le status 399 then Some GoThere
    else if status == 400 then (if coded then None else Some IsItHttps)
    else if status == 401 then Some (login_advice kind)
    else None

-- What to do about a reply that ended a push: by its status, whether it had an error code, whether an upload was opened
-- before, and the server's kind.
abbrev pub advice_on : ℕ → Bool → Bool → Kind → Option Advice
advice_on status coded false kind =
    option_or (advice_at_opening status coded) (advice_anywhere status coded kind)
advice_on status coded true kind = option_or (advice_within status kind) (advice_anywhere status coded kind)

-- the words for what to do
abbrev pub words_of_advice : Advice → List ℕ
words_of_advice IsItHttps = codes "is this https? A push speaks plain HTTP"
words_of_advice NoLogin =
    codes
    "it wants a login, and a push has none: push to the reverse proxy's local address, or through `make adapter REGISTRY=http://host:port LOGIN=FILE`"
words_of_advice OtherLogin =
    codes
    "the registry behind the adapter wants a login, or another one: start `make adapter` with the LOGIN=FILE of one that it knows"
words_of_advice PushAgain = codes "it lost the upload: push again"
words_of_advice State =
    codes
    "it is docker-registry, as by the state in its Location: push through `make adapter REGISTRY=http://host:port`"
words_of_advice IsItARegistry = codes "it takes no uploads into this repository: is it a registry?"
words_of_advice NoRegistry =
    codes "it is no registry: one answers 202 to the opening of an upload, or with an error code"
words_of_advice Adapter =
    codes
    "it is another kind of server, as by the form of its Location: push through `make adapter REGISTRY=http://host:port`"
words_of_advice GoThere =
    codes
    "it sends elsewhere, and a push doesn't follow: push to the server of its Location, or, if that is https, through `make adapter REGISTRY=host:port`"

-- what kept the last request of a push from being heard: a server that has opened an upload speaks HTTP, so one that
-- closes then, or takes no more (EPIPE, ECONNRESET), was ended or is full
abbrev pub last_trouble : Trouble → Bool → Trouble
last_trouble trouble false = trouble
last_trouble Closed true = Cut
last_trouble (System number) true = if number == 32 || number == 104 then Cut else System number
last_trouble trouble true = trouble

-- what there is to say of a push that was given up, beside its line
abbrev pub reason_of : Why → Course → Kind → Trouble → Option Reason
reason_of (Refused status code) course kind trouble =
    option_map Advised (advice_on status (is_some code) course.opened kind)
reason_of BadServer course kind trouble = Some (Advised Adapter)
reason_of OutOfTries course kind trouble = Some (Lost (last_trouble trouble course.opened) course.losses)
