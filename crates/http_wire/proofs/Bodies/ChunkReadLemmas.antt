-- From a chunk's parts to the chunk, and from chunks to the body.
use Rattle.std.proofs.Common.{◌≡◌, ℕ, ◌-◌, ◌<◌, ◌≤◌, List, [], ◌∷◌, ◌++◌, All, length, refl, arith, ◌∙◌, sym, ap, subst}
use Rattle.std.proofs.Common.{append_assoc, length-append, inl, inr, rules}
use Rattle.std.specs.Prelude.{Err, ◌⊎◌}
use Rattle.std.proofs.lemmas.List.{append-nil}
use Rattle.std.proofs.lemmas.Grind.{flat_map-append}
use Rattle.std.proofs.lemmas.List.Elements.{All-append, All-cons, All-nil}
use Rattle.std.specs.Str.Parse.{digits_value}
use Rattle.http_wire.specs.States.{SourceState, InputState}
use Rattle.http_wire.specs.Reading.{Gave}
use Rattle.http_wire.specs.Body.{Chunk, print_chunk, IsChunk, chunks_text, chunks_data, NeverChunked, IsBadBody}
use Rattle.http_wire.specs.Body.{IsCutBody}
use Rattle.http_wire.specs.Inner.BodyReading.{Moved, ReadsBytes, body_state}
use Rattle.http_wire.specs.Inner.ChunkReading.{TakesLine, BreaksLine, CutsLine, FindsLine, BreaksEnd, CutsEnd, FindsEnd}
use Rattle.http_wire.specs.Inner.ChunkReading.{TakesChunk, TakesLast, RefusesChunk, CutsChunk, FindsChunk}
use Rattle.http_wire.specs.Inner.ChunksRead.{AreTaken}
use Rattle.http_wire.specs.Inner.BodyFinding.{TakesBody, RefusesBodyText, CutsBody, FindsBody}
use Rattle.http_wire.specs.declared.body.Framing.TheVariants.{Chunked}
use Rattle.http_wire.specs.declared.fault.Bad.{Bad}
use Rattle.http_wire.specs.declared.fault.Bad.TheVariants as bads
use Rattle.http_wire.specs.Faults.{body_of_input}
use Rattle.http_wire.specs.declared.fault.InputFault.{InputFault}
use Rattle.http_wire.specs.declared.fault.InputFault.TheVariants as Input
use Rattle.http_wire.specs.declared.fault.BodyFault.{BodyFault}
use Rattle.http_wire.specs.declared.fault.BodyFault.TheVariants as Fault
use Rattle.http_wire.proofs.Bodies.MovedLemmas.{StopsBefore, stops}
use Rattle.http_wire.proofs.GaveLemmas.{gave_as, gave_after}
use Rattle.http_wire.proofs.Bodies.ChunkLemmas.{never_from_line, never_after, front_after, under_after, over_after}
use Rattle.http_wire.proofs.Bodies.ChunkLemmas.{under_inside, never_end}
use Rattle.http_wire.proofs.Heads.FrontLemmas.{front_line, front_data, front_data_end, under_line}

-- ---- one chunk

pub chunk_line_broken : (room : ℕ) (a : InputState) (b : SourceState) → BreaksLine a b
    → RefusesChunk room a b bads.Chunks
chunk_line_broken room a b h = record {
  text = h.before ++ h.byte ∷ h.rest;
  gave = h.gave;
  bad = inr (
    refl,
    record {
      before = h.before;
      byte = h.byte;
      rest = h.rest;
      cut = refl;
      under = under_line room h.before h.state h.stands;
      front = front_line h.before h.state h.stands;
      never = never_from_line (h.before ++ h.byte ∷ []) h.never;
    },
  );
}

chunk_line_cut : (room : ℕ) (a : InputState) (b : SourceState) → CutsLine a b → CutsChunk room a b
chunk_line_cut room a b h = record {
  text = h.text;
  gave = h.gave;
  cut = (front_line h.text h.state h.stands, under_line room h.text h.state h.stands);
}

pub chunk_line_fault : (room : ℕ) (a b : InputState) (x y : List ℕ) (e : InputFault) → FindsLine a b (Err e)
    → FindsChunk room (body_state a x) (body_state b y) (Err (body_of_input e))
chunk_line_fault room a b x y Input.Truncated h = (chunk_line_cut room a b.source h.0, h.1)
chunk_line_fault room a b x y Input.Read h = chunk_line_cut room a b.source h

pub chunk_over : (room : ℕ) (a b : InputState) (value : ℕ) → TakesLine a b value → room < value
    → RefusesChunk room a b.source bads.TooLarge
chunk_over room a b value h over =
    let l = h.is_line in
    let valued = l.value_is in
    record {
      text = h.line ++ b.held;
      gave = h.gave;
      bad = inl (
        refl,
        record {
          chunks = [];
          digits = l.digits;
          rest = b.held;
          each = All-nil IsChunk;
          size = l.size;
          cut = ap (λ t. t ++ b.held) l.cut ∙ append_assoc l.digits (13 ∷ 10 ∷ []) b.held;
          over = omega (arith, valued, over);
        },
      );
    }

-- the text of a line and of what follows it
line_text : (line digits more : List ℕ) → line ≡ digits ++ (13 ∷ 10 ∷ []) → line ++ more ≡ digits ++ (13 ∷ 10 ∷ more)
line_text line digits more cut = ap (λ t. t ++ more) cut ∙ append_assoc digits (13 ∷ 10 ∷ []) more

chunk_data_cut : (room : ℕ) (a b : InputState) (c : SourceState) (value : ℕ) → TakesLine a b value → value ≤ room
    → StopsBefore b c value → CutsChunk room a c
chunk_data_cut room a b c value h fits end =
    let l = h.is_line in
    let valued = l.value_is in
    let short = end.short in
    record {
      text = h.line ++ end.text;
      gave = gave_after a b c h.line end.text h.gave end.gave;
      cut = subst (IsCutBody (Chunked room)) (sym (line_text h.line l.digits end.text l.cut)) (
        front_data l.digits end.text l.size (omega (arith, short, valued)),
        under_inside room l.digits end.text l.size (omega (arith, valued, fits)) (omega (arith, short, valued)),
      );
    }

pub chunk_data_fault : (room : ℕ) (a b c : InputState) (x y : List ℕ) (value : ℕ) (e : BodyFault) → TakesLine a b value
    → value ≤ room → ReadsBytes (body_state b x) (body_state c y) value (Err e)
    → FindsChunk room (body_state a x) (body_state c y) (Err e)
chunk_data_fault room a b c x y value Fault.Truncated h fits end = search (rules, arith, chunk_data_cut, stops)
chunk_data_fault room a b c x y value Fault.Read h fits end = search (rules, arith, chunk_data_cut, stops)
chunk_data_fault room a b c x y value Fault.NoMemory h fits none =
    record { text = h.line ++ none.text; gave = gave_after a b c.source h.line none.text h.gave none.gave }

-- a line and its data were taken, and then some text was seen
gave_chunk : (a b c : InputState) (d : SourceState) (more x y : List ℕ) (value : ℕ) (h : TakesLine a b value)
    (m : Moved (body_state b x) (body_state c y) value) → Gave c d more → Gave a d (h.line ++ (m.bytes ++ more))
gave_chunk a b c d more x y value h m g = search (rules, arith, gave_after)

pub chunk_end_broken : (room : ℕ) (a b c : InputState) (d : SourceState) (x y : List ℕ) (value : ℕ)
    → TakesLine a b value → value ≤ room → Moved (body_state b x) (body_state c y) value → BreaksEnd c d
    → RefusesChunk room a d bads.Chunks
chunk_end_broken room a b c d x y value h fits m e =
    let l = h.is_line in
    let valued = l.value_is in
    let counted = m.counted in
    let same : digits_value 16 l.digits ≡ length m.bytes = omega (arith, valued, counted) in
    let front = front_of e.before e.front in
    let len = ap length front.2 in
    let some = front.3 in
    let before : List ℕ = l.digits ++ (13 ∷ 10 ∷ (m.bytes ++ e.before)) in
    record {
      text = h.line ++ (m.bytes ++ (e.before ++ e.byte ∷ e.rest));
      gave = gave_chunk a b c d (e.before ++ e.byte ∷ e.rest) x y value h m e.gave;
      bad = inr (
        refl,
        record {
          before = before;
          byte = e.byte;
          rest = e.rest;
          cut = line_text h.line l.digits (m.bytes ++ (e.before ++ e.byte ∷ e.rest)) l.cut ∙ simp append_assoc;
          under = under_inside room l.digits (m.bytes ++ e.before) l.size (omega (arith, valued, fits))
              (omega (arith, same, len, some, length-append m.bytes e.before, length-append e.before front.1));
          front = front_data_end l.digits m.bytes e.before front.1 l.size same front.2 front.3;
          never =
              subst NeverChunked (simp append_assoc)
              (never_end l.digits m.bytes (e.before ++ e.byte ∷ []) l.size same e.never);
        },
      );
    }
  where
    front_of : (x : List ℕ) → (x ≡ []) ⊎ (x ≡ 13 ∷ [])
        → (u : ℕ) × (y : List ℕ) × (x ++ y ≡ 13 ∷ 10 ∷ []) × (0 < length y)
    front_of x (inl e) = (0, 13 ∷ 10 ∷ [], ap (λ t. t ++ (13 ∷ 10 ∷ [])) e, omega arith)
    front_of x (inr e) = (0, 10 ∷ [], ap (λ t. t ++ (10 ∷ [])) e, omega arith)

pub chunk_end_cut : (room : ℕ) (a b c : InputState) (d : SourceState) (x y : List ℕ) (value : ℕ) → TakesLine a b value
    → value ≤ room → Moved (body_state b x) (body_state c y) value → CutsEnd c d → CutsChunk room a d
chunk_end_cut room a b c d x y value h fits m e =
    let l = h.is_line in
    let valued = l.value_is in
    let counted = m.counted in
    let same : digits_value 16 l.digits ≡ length m.bytes = omega (arith, valued, counted) in
    let front = front_of e.text e.front in
    let len = ap length front.2 in
    let some = front.3 in
    record {
      text = h.line ++ (m.bytes ++ e.text);
      gave = gave_chunk a b c d e.text x y value h m e.gave;
      cut = subst (IsCutBody (Chunked room)) (sym (line_text h.line l.digits (m.bytes ++ e.text) l.cut)) (
        front_data_end l.digits m.bytes e.text front.1 l.size same front.2 front.3,
        under_inside room l.digits (m.bytes ++ e.text) l.size (omega (arith, valued, fits))
            (omega (arith, same, len, some, length-append m.bytes e.text, length-append e.text front.1)),
      );
    }
  where
    front_of : (x : List ℕ) → (x ≡ []) ⊎ (x ≡ 13 ∷ [])
        → (u : ℕ) × (y : List ℕ) × (x ++ y ≡ 13 ∷ 10 ∷ []) × (0 < length y)
    front_of x (inl e) = (0, 13 ∷ 10 ∷ [], ap (λ t. t ++ (13 ∷ 10 ∷ [])) e, omega arith)
    front_of x (inr e) = (0, 10 ∷ [], ap (λ t. t ++ (10 ∷ [])) e, omega arith)

pub chunk_end_fault : (room : ℕ) (a b c d : InputState) (x y : List ℕ) (value : ℕ) (e : InputFault)
    → TakesLine a b value → value ≤ room → Moved (body_state b x) (body_state c y) value → FindsEnd c d (Err e)
    → FindsChunk room (body_state a x) (body_state d y) (Err (body_of_input e))
chunk_end_fault room a b c d x y value Input.Truncated h fits m f = search (rules, arith, chunk_end_cut)
chunk_end_fault room a b c d x y value Input.Read h fits m f = chunk_end_cut room a b c d.source x y value h fits m f

pub chunk_taken : (room : ℕ) (a b c d : InputState) (x y : List ℕ) (value : ℕ) → TakesLine a b value → value ≤ room
    → 0 < value → Moved (body_state b x) (body_state c y) value → Gave c d.source (13 ∷ 10 ∷ d.held)
    → TakesChunk room (body_state a x) (body_state d y)
chunk_taken room a b c d x y value h fits some m end =
    let l = h.is_line in
    let valued = l.value_is in
    let counted = m.counted in
    let gave = gave_chunk a b c d.source (13 ∷ 10 ∷ d.held) x y value h m end in
    record {
      chunk = record { digits = l.digits; data_bytes = m.bytes };
      is_chunk = record { size = l.size; some = omega (arith, counted, some); same = omega (arith, valued, counted) };
      fits = omega (arith, counted, fits);
      gave = gave_as (flat l.digits m.bytes ∙ sym (line_text h.line l.digits (m.bytes ++ (13 ∷ 10 ∷ d.held)) l.cut))
          gave;
      joined = m.joined;
    }
  where
    flat : (ds bytes : List ℕ)
        → (ds ++ (13 ∷ 10 ∷ (bytes ++ (13 ∷ 10 ∷ [])))) ++ d.held ≡ ds ++ (13 ∷ 10 ∷ (bytes ++ (13 ∷ 10 ∷ d.held)))
    flat ds bytes = simp append_assoc

-- ---- all chunks

pub taken_more : (max room : ℕ) (a b c : InputState) (x y : List ℕ) → room ≡ max - length x
    → AreTaken max (body_state a []) (body_state b x) → TakesChunk room (body_state b x) (body_state c y)
    → AreTaken max (body_state a []) (body_state c y)
taken_more max room a b c x y left t h =
    let fits = t.fits in
    let more = h.fits in
    let joined = ap length h.joined in
    let gave = gave_after a b c.source (chunks_text t.chunks) (print_chunk h.chunk ++ c.held) t.gave h.gave in
    record {
      chunks = t.chunks ++ h.chunk ∷ [];
      each =
          All-append IsChunk t.chunks (h.chunk ∷ []) t.each (All-cons IsChunk h.chunk [] h.is_chunk (All-nil IsChunk));
      gave =
          gave_as (ap (λ s. s ++ c.held) (flat_map-append print_chunk t.chunks (h.chunk ∷ [])
          ∙ ap (λ s. chunks_text t.chunks ++ s) (append-nil (print_chunk h.chunk)))
          ∙ append_assoc (chunks_text t.chunks) (print_chunk h.chunk) c.held) gave;
      joined = h.joined ∙ ap (λ s. s ++ h.chunk.data_bytes) t.joined
          ∙ ap (λ s. chunks_data t.chunks ++ s) (sym (append-nil h.chunk.data_bytes))
          ∙ sym (flat_map-append (λ chunk. chunk.data_bytes) t.chunks (h.chunk ∷ []));
      fits = omega (arith, fits, more, left, joined, length-append x h.chunk.data_bytes);
    }

pub body_whole : (max : ℕ) (a b c : InputState) (x y : List ℕ) → AreTaken max (body_state a []) (body_state b x)
    → TakesLast (body_state b x) (body_state c y) → TakesBody (Chunked max) a c y
body_whole max a b c x y t h =
    let fits = t.fits in
    let same = ap length h.joined in
    let last : List ℕ = h.zeros ++ (13 ∷ 10 ∷ 13 ∷ 10 ∷ []) in
    let gave = gave_after a b c.source (chunks_text t.chunks) (last ++ c.held) t.gave h.gave in
    record {
      text = chunks_text t.chunks ++ last;
      gave = gave_as (append_assoc (chunks_text t.chunks) last c.held) gave;
      written = (
        record {
          chunks = t.chunks;
          zeros = h.zeros;
          each = t.each;
          last = h.is_zero;
          cut = refl;
          joined = h.joined ∙ t.joined;
        },
        omega (arith, fits, same),
      );
    }

-- the room that is left, by the chunks
room_left : (max room : ℕ) (x : List ℕ) (chunks : List Chunk) → room ≡ max - length x → x ≡ chunks_data chunks
    → room ≡ max - length (chunks_data chunks)
room_left max room x chunks left same = left ∙ ap (λ t. max - length t) same

pub bad_after : (max : ℕ) (chunks : List Chunk) (text : List ℕ) (why : Bad) → All IsChunk chunks
    → length (chunks_data chunks) ≤ max → IsBadBody (Chunked (max - length (chunks_data chunks))) text why
    → IsBadBody (Chunked max) (chunks_text chunks ++ text) why
bad_after max chunks text why each fits bad = elim bad [
  | inl b ↦ inl (b.0, over_after max chunks text each fits b.1)
  | inr b ↦
      let broken = b.1 in
      inr (
        b.0,
        record {
          before = chunks_text chunks ++ broken.before;
          byte = broken.byte;
          rest = broken.rest;
          cut =
              ap (λ t. chunks_text chunks ++ t) broken.cut
              ∙ sym (append_assoc (chunks_text chunks) broken.before (broken.byte ∷ broken.rest));
          under = under_after max chunks broken.before each fits broken.under;
          front = front_after chunks broken.before each broken.front;
          never = subst NeverChunked (sym (append_assoc (chunks_text chunks) broken.before (broken.byte ∷ [])))
              (never_after chunks (broken.before ++ broken.byte ∷ []) each broken.never);
        },
      )
]

pub body_refused : (max room : ℕ) (a b : InputState) (c : SourceState) (x : List ℕ) (why : Bad)
    → room ≡ max - length x → AreTaken max (body_state a []) (body_state b x) → RefusesChunk room b c why
    → RefusesBodyText (Chunked max) a c why
body_refused max room a b c x why left t h =
    let fits = t.fits in
    let same = ap length t.joined in
    record {
      text = chunks_text t.chunks ++ h.text;
      gave = gave_after a b c (chunks_text t.chunks) h.text t.gave h.gave;
      bad = bad_after max t.chunks h.text why t.each (omega (arith, fits, same))
          (subst (λ n. IsBadBody (Chunked n) h.text why) (room_left max room x t.chunks left t.joined) h.bad);
    }

body_cut : (max room : ℕ) (a b : InputState) (c : SourceState) (x : List ℕ) → room ≡ max - length x
    → AreTaken max (body_state a []) (body_state b x) → CutsChunk room b c → CutsBody (Chunked max) a c
body_cut max room a b c x left t h =
    let fits = t.fits in
    let same = ap length t.joined in
    let cut = subst (λ n. IsCutBody (Chunked n) h.text) (room_left max room x t.chunks left t.joined) h.cut in
    record {
      text = chunks_text t.chunks ++ h.text;
      gave = gave_after a b c (chunks_text t.chunks) h.text t.gave h.gave;
      cut = (
        front_after t.chunks h.text t.each cut.0,
        under_after max t.chunks h.text t.each (omega (arith, fits, same)) cut.1,
      );
    }

pub body_fault : (max room : ℕ) (a b c : InputState) (x y : List ℕ) (e : BodyFault) → room ≡ max - length x
    → AreTaken max (body_state a []) (body_state b x) → FindsChunk room (body_state b x) (body_state c y) (Err e)
    → FindsBody (Chunked max) a c y (Err e)
body_fault max room a b c x y Fault.Truncated left t h = (body_cut max room a b c.source x left t h.0, h.1)
body_fault max room a b c x y Fault.Read left t h = body_cut max room a b c.source x left t h
body_fault max room a b c x y Fault.NoMemory left t h = record {
  text = chunks_text t.chunks ++ h.text;
  gave = gave_after a b c.source (chunks_text t.chunks) h.text t.gave h.gave;
}
