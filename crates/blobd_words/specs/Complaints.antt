-- What is wrong with words that are no command.
use Rattle.std.specs.Prelude.{ℕ, ⊤, ◌-◌, List, length, codes}
use Rattle.std.specs.Borrow.{Bor}
use Rattle.std.specs.declared.net.socket_addr.SocketAddr.{SocketAddr}
use Rattle.std.specs.Net.Grammar.{IsSocketText}
use Rattle.blobd_words.specs.declared.complaint.Complaint.{Complaint}
use Rattle.blobd_words.specs.declared.complaint.Complaint.TheVariants.{Addr, Count, Chunk, Grace, Dir, Words, Command, NoText}
use Rattle.blobd_words.specs.Size.{WritesSize}
use Rattle.blobd_words.specs.Words.{IsCount, IsGrace, word_at}

-- the word before the last two, which is to be a time, isn't one
abbrev pub HasWrongGrace : List (Bor (List ℕ)) → Type 0
HasWrongGrace words = (number : ℕ) → ¬ (IsGrace (word_at words (length words - 3)) number)

-- the word in question isn't one; nothing is said of the rest
abbrev pub IsComplaint : List (Bor (List ℕ)) → Complaint → Type 0
IsComplaint words Addr = (addr : SocketAddr) → ¬ (IsSocketText (word_at words 1) addr)
IsComplaint words Count = (number : ℕ) → ¬ (IsCount 1000000 (word_at words 2) number)
IsComplaint words Chunk = (size : ℕ) → ¬ (WritesSize (word_at words 4) size)
IsComplaint words Grace = HasWrongGrace words
IsComplaint words other = ⊤

abbrev pub complaint_text : Complaint → List ℕ
complaint_text Addr = codes "ADDR is an IP address and a port, as 127.0.0.1:5000 or [::1]:5000"
complaint_text Count =
    codes "COUNT is a number from 1 to 1000000; without it each worker takes all connections that come"
complaint_text Chunk = codes "CHUNK is a number of bytes from 1 to 2147483648, as 64K, 16M or 1G"
complaint_text Grace = codes "SECONDS is a number from 0 to 1000000000: 86400 is a day, as without --grace"
complaint_text Dir = codes "DIR is missing: the data directory of a server, as /var/lib/blobd"
complaint_text Words = codes "the command has other words: `blobd --help` has an example of each"
complaint_text Command = codes "no such command: `blobd --help` says which there are"
complaint_text NoText = codes "a word isn't UTF-8: a FILE of such a name is read as /dev/stdin, with < FILE"
