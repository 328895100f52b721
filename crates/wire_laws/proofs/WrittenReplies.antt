-- The text of each reply is read as what its answer says.
use Rattle.std.proofs.lemmas.Grind.{common_steps}
use Rattle.std.proofs.Common.{◌≡◌, ℕ, ◌<◌, ◌≤◌, ◌^◌, Bool, true, false, List, [], ◌∷◌, ◌++◌, length, refl, arith}
use Rattle.std.proofs.Common.{◌∙◌, sym, subst, Option, Some, None, Ok, Err, inl, inr, append_assoc, lt-ltb, le-ltb}
use Rattle.std.proofs.Common.{nat_lt, rules}
use Rattle.std.proofs.lemmas.Bool.{cases_lt}
use Rattle.std.proofs.lemmas.List.Sums.{AllPass-from_list_all}
use Rattle.std.proofs.lemmas.Str.{IsUtf8-from_ascii, is_utf8-from_IsUtf8}
use Rattle.std.proofs.lemmas.Str.Ascii.{IsAscii-from_all}
use Rattle.std.specs.List.{list_all}
use Rattle.std.proofs.lemmas.Fmt.{decimal_is_IsNumeral, decimal_nonempty}
use Rattle.std.specs.Prelude.{decimal, option_and_then, ⊤}
use Rattle.std.specs.Str.Parse.{digits_value}
use Rattle.serde_json.specs.Read.{read}
use Rattle.serde_json.proofs.OnLiterals.{serde_json_on_literals}
use Rattle.upload_names.specs.Digest.{Digest, IsDigest}
use Rattle.upload_service.specs.declared.answer.Answer.{Answer}
use Rattle.upload_service.specs.declared.answer.Answer.TheVariants.{Base, Blob, Begun, Stored, Taken, Standing}
use Rattle.upload_service.specs.declared.answer.Answer.TheVariants.{Misplaced, Refused, NoMemory}
use Rattle.upload_service.specs.declared.answer.Refusal.{Refusal}
use Rattle.upload_service.specs.declared.answer.Refusal.TheVariants as refusals
use Rattle.http_wire.specs.Body.{is_number}
use Rattle.http_wire.specs.HeadText.{closing_fields, status_number}
use Rattle.http_wire.specs.ResponseBody.{response_framing_by_length, has_no_body}
use Rattle.http_wire.specs.States.{SourceState}
use Rattle.http_wire.specs.declared.responses.body.ResponseFraming.TheVariants.{Length}
use Rattle.http_wire.specs.declared.responses.body.FramingFault.TheVariants as Fault
use Rattle.upload_texts.specs.Errors.{code_text, error_body, refusal_code, refusal_status}
use Rattle.upload_texts.specs.declared.error.ErrorCode.{ErrorCode}
use Rattle.upload_texts.specs.declared.error.ErrorCode.TheVariants as errors
use Rattle.upload_texts.proofs.PlainTexts.{AllPass-each, blob_plain, upload_plain}
use Rattle.upload_wire.specs.declared.request.Style.{Style}
use Rattle.upload_wire.specs.ReplyText.{reply, reply_of}
use Rattle.upload_client.specs.AnswerText.{code_in, code_of, max_answer}
use Rattle.upload_client.specs.Heard.{bare, reply_heard}
use Rattle.upload_client.specs.UnambiguousReplies.{ReplyParse, heard, too_large}
use Rattle.upload_client.specs.declared.heard.Heard.{Heard}
use Rattle.wire_laws.specs.WrittenReplies.{FitsMethod, HasLawfulValues, IsReadOnlyAs, RepliesAreHeard, blob_read}
use Rattle.wire_laws.specs.WrittenReplies.{heard_in_head, reply_read}
use Rattle.wire_laws.proofs.ReplyFields.{Says, blob_length, closed, error_size, found_says, length_says, misplaced_says}
use Rattle.wire_laws.proofs.ReplyFields.{place_says, refused_says, standing_says, taken_says, upload_length}
use Rattle.wire_laws.proofs.ReplyHeads.{head_text}
use Rattle.wire_laws.proofs.WrittenFields.{all_digits}
use Rattle.wire_laws.proofs.SentReplies.{Sent, heard_only, large_only, text_of}

-- ---- bodies

-- a length that is a number
number_is : (n : ℕ) → n < 2 ^ 64 → (is_number (decimal n) ≡ true) × (digits_value 10 (decimal n) ≡ n)
unfolding is_number
number_is n h =
    let some : nat_lt 0 (length (decimal n)) ≡ true = lt-ltb 0 (length (decimal n)) (decimal_nonempty n h) in
    (rw (some, all_digits n h) refl, (decimal_is_IsNumeral n h).1)

-- the reply to a HEAD, and one of a status without a body, end behind the head
empty_framed : (n : ℕ) → n < 2 ^ 64 → response_framing_by_length max_answer true (decimal n ∷ []) ≡ Ok (Length 0)
empty_framed n h = rw (number_is n h).0 refl

whole_framed : (n : ℕ) → n ≤ max_answer → response_framing_by_length max_answer false (decimal n ∷ []) ≡ Ok (Length n)
whole_framed n h = search (rules, arith, number_is, le-ltb)

large_framed : (n : ℕ) → max_answer < n → n < 2 ^ 64
    → response_framing_by_length max_answer false (decimal n ∷ []) ≡ Err Fault.TooLarge
large_framed n h small = search (rules, arith, number_is, lt-ltb)

-- the code of a text
code_by : (body : List ℕ) (code : Option (List ℕ)) → list_all (λ b. nat_lt b 128) body ≡ true
    → code ≡ option_and_then code_in (read body) → code ≡ code_of body
code_by body code small e =
    grind (
      arith,
      common_steps,
      is_utf8-from_IsUtf8,
      IsUtf8-from_ascii,
      IsAscii-from_all,
      nat_lt,
      AllPass-each,
      AllPass-from_list_all,
    )

no_code : None ≡ code_of []
unfolding serde_json_on_literals
no_code = code_by [] None refl refl

-- the code of an error's body
code_in_body : (code : ErrorCode) → list_all (λ b. nat_lt b 128) (error_body code) ≡ true
    → Some (code_text code) ≡ option_and_then code_in (read (error_body code))
    → Some (code_text code) ≡ code_of (error_body code)
code_in_body code small e = code_by (error_body code) (Some (code_text code)) small e

error_code : (code : ErrorCode) → Some (code_text code) ≡ code_of (error_body code)
unfolding serde_json_on_literals
error_code errors.BlobUnknown = code_in_body errors.BlobUnknown refl refl
error_code other = code_in_body other refl refl

-- ---- the answers

-- what the fields of an answer's reply say
abbrev SaysFor : Answer → List (List ℕ) → Type 0
SaysFor answer lengths = Says (reply_of answer).fields lengths (reply_heard answer).place (reply_heard answer).upto

-- What an answer's reply says, and how the body behind it is framed. It isn't said of a blob, whose bytes may be too
-- many.
record IsSaid (answer : Answer) : Type 0 where
  lengths : List (List ℕ)
  says : SaysFor answer lengths
  status_is : (reply_heard answer).status ≡ status_number (reply_of answer).status
  empty : response_framing_by_length max_answer true lengths ≡ Ok (Length 0)

-- a reply whose body is read
record IsWholeSaid (answer : Answer) : Type 0 where
  said : IsSaid answer
  whole : response_framing_by_length max_answer
      (has_no_body false (status_number (reply_of answer).status)) said.lengths
      ≡ Ok (Length (length (reply_of answer).body))
  code : (reply_heard answer).code ≡ code_of (reply_of answer).body

refused_status : (refusal : Refusal) → has_no_body false (status_number (refusal_status refusal)) ≡ false
refused_status refusals.NoForm = refl
refused_status other = refl

abbrev zero_length : List (List ℕ)
zero_length = decimal 0 ∷ []

zero_empty : response_framing_by_length max_answer true zero_length ≡ Ok (Length 0)
zero_empty = empty_framed 0 (omega arith)

zero_whole : response_framing_by_length max_answer false zero_length ≡ Ok (Length 0)
zero_whole = whole_framed 0 (omega arith)

-- the reply's status is the one that is heard, and it has a body
abbrev HasStatus : Answer → Type 0
HasStatus answer = (reply_heard answer).status ≡ status_number (reply_of answer).status

abbrev HasBody : Answer → Type 0
HasBody answer = has_no_body false (status_number (reply_of answer).status) ≡ false

-- a reply that says a length of 0
bare_said : (answer : Answer) → SaysFor answer zero_length → HasStatus answer → HasBody answer
    → (reply_of answer).body ≡ []
    → (reply_heard answer).code ≡ None → IsWholeSaid answer
bare_said answer says status_is full none code = record {
  said = record { lengths = zero_length; says = says; status_is = status_is; empty = zero_empty };
  whole = rw (full, none) zero_whole;
  code = rw none (code ∙ no_code);
}

-- a reply with the body of an error
error_said : (answer : Answer) (error : ErrorCode) → SaysFor answer (decimal (length (error_body error)) ∷ [])
    → HasStatus answer → HasBody answer → (reply_of answer).body ≡ error_body error
    → (reply_heard answer).code ≡ Some (code_text error) → IsWholeSaid answer
error_said answer error says status_is full body code =
    let small = error_size error in
    record {
      said = record {
        lengths = decimal (length (error_body error)) ∷ [];
        says = says;
        status_is = status_is;
        empty = empty_framed (length (error_body error)) (omega (arith, small));
      };
      whole = rw (full, body) (whole_framed (length (error_body error)) (omega (arith, small)));
      code = rw body (code ∙ error_code error);
    }

abbrev blob_said : (digest : Digest) (size : ℕ) (bytes : Option (List ℕ)) → IsDigest digest → size < 2 ^ 64
    → IsSaid (Blob digest size bytes)
blob_said digest size bytes d small = record {
  lengths = decimal size ∷ [];
  says = found_says digest size d small;
  status_is = refl;
  empty = empty_framed size small;
}

-- an answer other than a blob
abbrev HasNoBlob : Answer → Type 0
HasNoBlob (Blob digest size bytes) = ⊥
HasNoBlob other = ⊤

said_whole : (answer : Answer) → HasNoBlob answer → HasLawfulValues answer → IsWholeSaid answer
said_whole Base plain h = bare_said Base (length_says 0 (omega arith)) refl refl refl refl
said_whole (Blob digest size bytes) plain h = absurd plain
said_whole (Begun name at) plain h = search (rules, arith, place_says, upload_plain, upload_length, bare_said)
said_whole (Stored name digest) plain h = search (rules, arith, place_says, blob_plain, blob_length, bare_said)
said_whole (Taken name at next) plain h = search (rules, arith, bare_said, taken_says)
-- a 204 has no body, and says no length
said_whole (Standing name at next) plain h = record {
  said = record { lengths = []; says = standing_says name at next h.0 h.1; status_is = refl; empty = refl };
  whole = refl;
  code = no_code;
}
said_whole (Misplaced name at next) plain h =
    let says = misplaced_says name at next errors.BlobUploadInvalid h.0 h.1 in
    error_said (Misplaced name at next) errors.BlobUploadInvalid says refl refl refl refl
said_whole (Refused refusal) plain h =
    error_said (Refused refusal) (refusal_code refusal) (refused_says refusal) refl (refused_status refusal) refl refl
said_whole NoMemory plain h = bare_said NoMemory (length_says 0 (omega arith)) refl refl refl refl

said_of : (answer : Answer) → HasLawfulValues answer → IsSaid answer
said_of (Blob digest size bytes) h = blob_said digest size bytes h.0 h.1
said_of other h = (said_whole other tt h).said

-- ---- the law

abbrev asked : Bool → Bool → Style
asked head keep = record { head = head; keep = keep }

-- how the reply is read
abbrev IsReply : Answer → Bool → Bool → List ℕ → SourceState → ReplyParse → Type 0
IsReply answer head keep rest new parse = IsReadOnlyAs head (reply answer (asked head keep) ++ rest) new parse

-- the head of the reply
abbrev sent_of : (answer : Answer) → Bool → IsSaid answer → Sent
sent_of answer keep s =
    let said = reply_heard answer in
    record {
      status = (reply_of answer).status;
      fields = (reply_of answer).fields ++ closing_fields keep;
      lengths = s.lengths;
      place = said.place;
      upto = said.upto;
      keep = keep;
      says = closed (reply_of answer).fields s.lengths said.place said.upto keep s.says;
    }

-- the bytes of a head, those of a body, and the rest
joined : (head : Bool) (sent : Sent) (body rest : List ℕ) (new : SourceState) (parse : ReplyParse)
    → IsReadOnlyAs head (text_of sent (body ++ rest)) new parse
    → IsReadOnlyAs head ((text_of sent body) ++ rest) new parse
joined head sent body rest new parse h = search (rules, arith, append_assoc, head_text)

-- behind the head of a reply to a HEAD nothing is read
head_heard : (answer : Answer) (keep : Bool) (rest : List ℕ) (new : SourceState) → IsSaid answer
    → IsReply answer true keep rest new (heard (heard_in_head answer) keep rest)
head_heard answer keep rest new s =
    let sent = sent_of answer keep s in
    let what = heard_in_head answer in
    joined true sent [] rest new (heard what keep rest)
    (heard_only true sent [] rest new what s.empty
    (record { status_is = s.status_is; place_is = refl; upto_is = refl; code = no_code }))

whole_heard : (answer : Answer) (keep : Bool) (rest : List ℕ) (new : SourceState) → IsWholeSaid answer
    → IsReply answer false keep rest new (heard (reply_heard answer) keep rest)
whole_heard answer keep rest new s =
    let sent = sent_of answer keep s.said in
    let what = reply_heard answer in
    joined false sent (reply_of answer).body rest new (heard what keep rest)
    (heard_only false sent (reply_of answer).body rest new what s.whole
    (record { status_is = s.said.status_is; place_is = refl; upto_is = refl; code = s.code }))

-- a blob's bytes are read as the body, if there are not too many
blob_heard : (digest : Digest) (content : List ℕ) (keep : Bool) (rest : List ℕ) (new : SourceState) → IsDigest digest
    → length content < 2 ^ 64
    → IsReply (Blob digest (length content) (Some content)) false keep rest new (blob_read content keep rest)
blob_heard digest content keep rest new d small =
    let answer = Blob digest (length content) (Some content) in
    let sent = sent_of answer keep (blob_said digest (length content) (Some content) d small) in
    let what : Heard = record (bare 200) { code = code_of content } in
    elim (cases_lt max_answer (length content)) [
      | inl over ↦
          rw (lt-ltb max_answer (length content) over)
          (joined false sent content rest new too_large
          (large_only false sent (content ++ rest) new (large_framed (length content) over small)))
      | inr under ↦
          rw (le-ltb max_answer (length content) under)
          (joined false sent content rest new (heard what keep rest)
          (heard_only false sent content rest new what (whole_framed (length content) under)
          (record { status_is = refl; place_is = refl; upto_is = refl; code = refl })))
    ]

pub replies_heard : RepliesAreHeard
replies_heard answer style rest new h fits = go answer style.head h fits
  where
    go : (answer : Answer) (head : Bool) → HasLawfulValues answer → FitsMethod answer head
        → IsReply answer head style.keep rest new (reply_read answer (asked head style.keep) rest)
    go answer true h fits = head_heard answer style.keep rest new (said_of answer h)
    go (Blob digest size (Some content)) false h fits =
        subst
        (λ n. IsReply (Blob digest n (Some content)) false style.keep rest new (blob_read content style.keep rest)) h.2
        (blob_heard digest content style.keep rest new h.0 (subst (λ n. n < 2 ^ 64) (sym h.2) h.1))
    go (Blob digest size None) false h fits = absurd (cc fits)
    go other false h fits = whole_heard other style.keep rest new (said_whole other tt h)
