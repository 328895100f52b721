-- Entries are read exactly.
use Rattle.std.proofs.Common.{◌≡◌, ℕ, ◌^◌, ◌<◌, false, cond, eqb, List, [], ◌∷◌, ◌++◌, length, Option, arith, rules}
use Rattle.std.proofs.Common.{Result, Ok, Err, refl, sym, ap, subst, ◌∙◌, append_assoc, inl, inr}
use Rattle.std.specs.Prelude.{IsTrue, IfOk}
use Rattle.std.specs.Int.{w32, w64, to_be_bytes}
use Rattle.std.proofs.lemmas.Bool.{cases_Bool, eqb-true}
use Rattle.std.proofs.lemmas.List.{append-nil, nil_from_length}
use Rattle.upload_names.specs.NamePass.{is_name}
use Rattle.upload_names.specs.Digest.{Digest, IsDigest, digest_text}
use Rattle.upload_names.specs.Reference.{reference_text}
use Rattle.upload_names.specs.ByteRange.{Span}
use Rattle.upload_journal.specs.declared.body.KeptBody.{KeptBody}
use Rattle.upload_journal.specs.declared.fault.EntryFault.TheVariants.{UnknownKind, Trailing}
use Rattle.upload_journal.specs.declared.entries.KeptAsk.{KeptAsk}
use Rattle.upload_journal.specs.declared.entries.KeptAsk.TheVariants.{Opening, Single, Mount, Chunk, Close}
use Rattle.upload_journal.specs.declared.entries.KeptExchange.{KeptExchange}
use Rattle.upload_journal.specs.declared.entries.Entry.{Entry}
use Rattle.upload_journal.specs.declared.entries.KeptAnswer.{KeptAnswer}
use Rattle.upload_journal.specs.declared.entries.Entry.TheVariants.{Exchange, NumbersUpTo, MomentsUpTo}
use Rattle.upload_journal.specs.declared.fault.ReadError.{ReadError}
use Rattle.upload_journal.specs.Fields.{◌>>=◌, Read, Gives, both, made, byte_at, bytes_at, number_at, name_at}
use Rattle.upload_journal.specs.Fields.{digest_at}
use Rattle.upload_journal.specs.Fields.{reference_at, range_at, body_at, told_at, measured, range_text, body_text}
use Rattle.upload_journal.specs.Fields.{told_text, IsReference, IsKeptBody, IsTold}
use Rattle.upload_journal.specs.Entries.{ask_text, asked_text, plain_text, entry_text, IsKeptAsk, IsKeptExchange}
use Rattle.upload_journal.specs.Entries.{IsEntry}
use Rattle.upload_journal.specs.Entries.{opening_at, single_at, mount_at, chunk_at, close_at, ask_at, exchange_at}
use Rattle.upload_journal.specs.Entries.{entry_at, plain_of, entry_of}
use Rattle.upload_journal.specs.Checksums.{with_checksum, checked}
use Rattle.upload_journal.proofs.Checksums.{checked_found, checked_again}
use Rattle.upload_journal.proofs.Exact.{IsBytes, bind_ok, ended, IsExact, both_exact, made_takes, made_again}
use Rattle.upload_journal.proofs.Exact.{bytes_exact, number32, number64}
use Rattle.upload_journal.proofs.Values.{chosen, Took, marked, name_exact, digest_exact}
use Rattle.upload_journal.proofs.Values.{reference_exact, IsRange, range_exact, body_exact, told_exact}

-- ---- the fields of each kind

abbrev single_fields : List ℕ → Read (List ℕ × (Digest × KeptBody))
single_fields = both name_at (both digest_at body_at)

abbrev mount_fields : List ℕ → Read (List ℕ × (Digest × List ℕ))
mount_fields = both name_at (both digest_at name_at)

abbrev chunk_fields : List ℕ → Read (List ℕ × (List ℕ × (Option Span × KeptBody)))
chunk_fields = both name_at (both reference_at (both range_at body_at))

abbrev close_fields : List ℕ → Read (List ℕ × (List ℕ × (Option Span × (Digest × KeptBody))))
close_fields = both name_at (both reference_at (both range_at (both digest_at body_at)))

single_exact : IsExact single_fields
    (λ p. measured p.0 ++ (measured (digest_text p.1.0) ++ body_text p.1.1))
    (λ p. IsTrue (is_name p.0) × (IsDigest p.1.0 × IsKeptBody p.1.1))
single_exact = both_exact _ _ _ _ _ _ name_exact (both_exact _ _ _ _ _ _ digest_exact body_exact)

mount_exact : IsExact mount_fields
    (λ p. measured p.0 ++ (measured (digest_text p.1.0) ++ measured p.1.1))
    (λ p. IsTrue (is_name p.0) × (IsDigest p.1.0 × IsTrue (is_name p.1.1)))
mount_exact = both_exact _ _ _ _ _ _ name_exact (both_exact _ _ _ _ _ _ digest_exact name_exact)

chunk_exact : IsExact chunk_fields
    (λ p. measured p.0 ++ (measured (reference_text p.1.0) ++ (range_text p.1.1.0 ++ body_text p.1.1.1)))
    (λ p. IsTrue (is_name p.0) × (IsReference p.1.0 × (IsRange p.1.1.0 × IsKeptBody p.1.1.1)))
chunk_exact =
    both_exact _ _ _ _ _ _ name_exact
    (both_exact _ _ _ _ _ _ reference_exact (both_exact _ _ _ _ _ _ range_exact body_exact))

close_exact : IsExact close_fields
    (λ p. measured p.0 ++ (measured (reference_text p.1.0) ++ (range_text p.1.1.0
    ++ (measured (digest_text p.1.1.1.0) ++ body_text p.1.1.1.1))))
    (λ p. IsTrue (is_name p.0)
    × (IsReference p.1.0 × (IsRange p.1.1.0 × (IsDigest p.1.1.1.0 × IsKeptBody p.1.1.1.1))))
close_exact =
    both_exact _ _ _ _ _ _ name_exact
    (both_exact _ _ _ _ _ _ reference_exact
    (both_exact _ _ _ _ _ _ range_exact (both_exact _ _ _ _ _ _ digest_exact body_exact)))

-- ---- requests

-- a request behind its kind
abbrev pub TookAsk : ℕ → List ℕ → KeptAsk → List ℕ → Type 0
TookAsk kind bytes ask rest = Took ask_text IsKeptAsk (kind ∷ bytes) ask rest

opening_takes : (kind : ℕ) (bytes : List ℕ) (ask : KeptAsk) (rest : List ℕ) → IsBytes (kind ∷ bytes) → kind ≡ 1
    → opening_at bytes ≡ Ok (ask, rest) → TookAsk kind bytes ask rest
unfolding opening_at
opening_takes kind bytes ask rest fits is e =
    marked Opening name_at _ _ ask_text IsKeptAsk 1 name_exact (λ p. refl) (λ p h. h) (kind ∷ bytes) bytes rest ask fits
    (ap (λ (k : ℕ). k ∷ bytes) is) e

single_takes : (kind : ℕ) (bytes : List ℕ) (ask : KeptAsk) (rest : List ℕ) → IsBytes (kind ∷ bytes) → kind ≡ 2
    → single_at bytes ≡ Ok (ask, rest) → TookAsk kind bytes ask rest
unfolding single_at
single_takes kind bytes ask rest fits is e =
    marked (λ p. Single p.0 p.1.0 p.1.1) single_fields _ _ ask_text IsKeptAsk 2 single_exact (λ p. refl)
    (λ p h. (h.0, h.1.0, h.1.1))
    (kind ∷ bytes) bytes rest ask fits (ap (λ (k : ℕ). k ∷ bytes) is) e

mount_takes : (kind : ℕ) (bytes : List ℕ) (ask : KeptAsk) (rest : List ℕ) → IsBytes (kind ∷ bytes) → kind ≡ 3
    → mount_at bytes ≡ Ok (ask, rest) → TookAsk kind bytes ask rest
unfolding mount_at
mount_takes kind bytes ask rest fits is e =
    marked (λ p. Mount p.0 p.1.0 p.1.1) mount_fields _ _ ask_text IsKeptAsk 3 mount_exact (λ p. refl)
    (λ p h. (h.0, h.1.0, h.1.1))
    (kind ∷ bytes) bytes rest ask fits (ap (λ (k : ℕ). k ∷ bytes) is) e

chunk_takes : (kind : ℕ) (bytes : List ℕ) (ask : KeptAsk) (rest : List ℕ) → IsBytes (kind ∷ bytes) → kind ≡ 4
    → chunk_at bytes ≡ Ok (ask, rest) → TookAsk kind bytes ask rest
unfolding chunk_at
chunk_takes kind bytes ask rest fits is e =
    marked (λ p. Chunk p.0 p.1.0 p.1.1.0 p.1.1.1) chunk_fields _ _ ask_text IsKeptAsk 4 chunk_exact (λ p. refl)
    (λ p h. (h.0, h.1.0, h.1.1.0, h.1.1.1)) (kind ∷ bytes) bytes rest ask fits (ap (λ (k : ℕ). k ∷ bytes) is) e

close_takes : (kind : ℕ) (bytes : List ℕ) (ask : KeptAsk) (rest : List ℕ) → IsBytes (kind ∷ bytes) → kind ≡ 5
    → close_at bytes ≡ Ok (ask, rest) → TookAsk kind bytes ask rest
unfolding close_at
close_takes kind bytes ask rest fits is e =
    marked (λ p. Close p.0 p.1.0 p.1.1.0 p.1.1.1.0 p.1.1.1.1) close_fields _ _ ask_text IsKeptAsk 5 close_exact
    (λ p. refl) (λ p h. (h.0, h.1.0, h.1.1.0, h.1.1.1.0, h.1.1.1.1)) (kind ∷ bytes) bytes rest ask
    fits (ap (λ (k : ℕ). k ∷ bytes) is) e

ask_takes : (kind : ℕ) (bytes : List ℕ) (ask : KeptAsk) (rest : List ℕ) → IsBytes (kind ∷ bytes)
    → ask_at kind bytes ≡ Ok (ask, rest) → TookAsk kind bytes ask rest
unfolding ask_at
ask_takes kind bytes ask rest fits e =
    let fifth = cond (eqb kind 5) (close_at bytes) (Err UnknownKind) in
    let fourth = cond (eqb kind 4) (chunk_at bytes) fifth in
    let third = cond (eqb kind 3) (mount_at bytes) fourth in
    let second = cond (eqb kind 2) (single_at bytes) third in
    elim (chosen (eqb kind 1) (opening_at bytes) second (Ok (ask, rest)) e) [
      | inl p ↦ opening_takes kind bytes ask rest fits (eqb-true _ _ p.0) p.1
      | inr p ↦ elim (chosen (eqb kind 2) (single_at bytes) third (Ok (ask, rest)) p.1) [
        | inl q ↦ single_takes kind bytes ask rest fits (eqb-true _ _ q.0) q.1
        | inr q ↦ elim (chosen (eqb kind 3) (mount_at bytes) fourth (Ok (ask, rest)) q.1) [
          | inl r ↦ mount_takes kind bytes ask rest fits (eqb-true _ _ r.0) r.1
          | inr r ↦ elim (chosen (eqb kind 4) (chunk_at bytes) fifth (Ok (ask, rest)) r.1) [
            | inl s ↦ chunk_takes kind bytes ask rest fits (eqb-true _ _ s.0) s.1
            | inr s ↦ elim (chosen (eqb kind 5) (close_at bytes) (Err UnknownKind) (Ok (ask, rest)) s.1) [
              | inl t ↦ close_takes kind bytes ask rest fits (eqb-true _ _ t.0) t.1
              | inr t ↦ absurd cc
            ]
          ]
        ]
      ]
    ]

asks_at : List ℕ → Read KeptAsk
asks_at bytes = byte_at bytes >>= λ kind. ask_at kind.0 kind.1

asks_take : (bytes : List ℕ) (ask : KeptAsk) (rest : List ℕ) → IsBytes bytes → asks_at bytes ≡ Ok (ask, rest)
    → Took ask_text IsKeptAsk bytes ask rest
unfolding asks_at
asks_take [] ask rest fits e = absurd cc
asks_take (kind ∷ bytes) ask rest fits e = ask_takes kind bytes ask rest fits e

asks_again : (ask : KeptAsk) (rest : List ℕ) → IsKeptAsk ask → asks_at (ask_text ask ++ rest) ≡ Ok (ask, rest)
unfolding asks_at ask_at opening_at single_at mount_at chunk_at close_at
asks_again (Opening name) rest lawful = made_again Opening name_at _ _ name_exact name rest lawful
asks_again (Single name digest body) rest lawful =
    made_again (λ p. Single p.0 p.1.0 p.1.1) single_fields _ _ single_exact (name, (digest, body)) rest
    (lawful.0, (lawful.1, lawful.2))
asks_again (Mount name digest source) rest lawful =
    made_again (λ p. Mount p.0 p.1.0 p.1.1) mount_fields _ _ mount_exact (name, (digest, source)) rest
    (lawful.0, (lawful.1, lawful.2))
asks_again (Chunk name at range body) rest lawful =
    made_again (λ p. Chunk p.0 p.1.0 p.1.1.0 p.1.1.1) chunk_fields _ _ chunk_exact
    (name, (at, (range, body))) rest (lawful.0, (lawful.1, (lawful.2, lawful.3)))
asks_again (Close name at range digest body) rest lawful =
    made_again (λ p. Close p.0 p.1.0 p.1.1.0 p.1.1.1.0 p.1.1.1.1) close_fields _ _ close_exact
    (name, (at, (range, (digest, body)))) rest
    (lawful.0, (lawful.1, (lawful.2, (lawful.3, lawful.4))))

asks_exact : IsExact asks_at ask_text IsKeptAsk
asks_exact = record { takes = asks_take; again = asks_again }

-- ---- exchanges

abbrev given_fields : List ℕ → Read (List ℕ × (ℕ × KeptAnswer))
given_fields = both (bytes_at 12) (both (number_at w64) told_at)

abbrev exchange_fields : List ℕ → Read (KeptAsk × (List ℕ × (ℕ × KeptAnswer)))
exchange_fields = both asks_at given_fields

abbrev fields_text : KeptAsk × (List ℕ × (ℕ × KeptAnswer)) → List ℕ
fields_text p = ask_text p.0 ++ (p.1.0 ++ (to_be_bytes w64 p.1.1.0 ++ told_text p.1.1.1))

abbrev AreFields : KeptAsk × (List ℕ × (ℕ × KeptAnswer)) → Type 0
AreFields p = IsKeptAsk p.0 × ((length p.1.0 ≡ 12) × ((p.1.1.0 < 2 ^ 64) × IsTold p.1.1.1))

fields_exact : IsExact exchange_fields fields_text AreFields
fields_exact =
    both_exact _ _ _ _ _ _ asks_exact
    (both_exact _ _ _ _ _ _ (bytes_exact 12) (both_exact _ _ _ _ _ _ number64 told_exact))

abbrev exchange_from : KeptAsk × (List ℕ × (ℕ × KeptAnswer)) → KeptExchange
exchange_from p = record { ask = p.0; secret = p.1.0; now = p.1.1.0; answer = p.1.1.1 }

abbrev exchange_text : KeptExchange → List ℕ
exchange_text x = asked_text x.ask x.secret x.now ++ told_text x.answer

exchanges_at : List ℕ → Read KeptExchange
exchanges_at bytes = byte_at bytes >>= λ kind. exchange_at kind.0 kind.1

as_fields : (bytes : List ℕ) → exchanges_at bytes ≡ made exchange_from exchange_fields bytes
unfolding exchanges_at exchange_at asks_at
as_fields [] = refl
as_fields (kind ∷ bytes) = refl

same_text : (p : KeptAsk × (List ℕ × (ℕ × KeptAnswer))) → exchange_text (exchange_from p) ≡ fields_text p
same_text p = simp append_assoc

exchanges_exact : IsExact exchanges_at exchange_text IsKeptExchange
exchanges_exact = record {
  takes = λ bytes x rest fits e.
      let m = made_takes exchange_from exchange_fields fields_text AreFields fields_exact bytes x rest fits
      (sym (as_fields bytes) ∙ e) in
      subst (λ x. Took exchange_text IsKeptExchange bytes x rest) (sym m.is) (
        m.parts ∙ ap (λ (t : List ℕ). t ++ rest) (sym (same_text m.from)),
        record { ask = m.lawful.0; secret = m.lawful.1.0; now = m.lawful.1.1.0; answer = m.lawful.1.1.1 },
        m.fits,
      );
  again = λ x rest lawful.
      let p : KeptAsk × (List ℕ × (ℕ × KeptAnswer)) = (x.ask, (x.secret, (x.now, x.answer))) in
      as_fields (exchange_text x ++ rest)
      ∙ ap (λ (t : List ℕ). made exchange_from exchange_fields (t ++ rest)) (same_text p)
      ∙ made_again exchange_from exchange_fields fields_text AreFields fields_exact p rest
      (lawful.ask, (lawful.secret, (lawful.now, lawful.answer)));
}

-- ---- entries

exchange_taken : (kind : ℕ) (bytes : List ℕ) (entry : Entry) (rest : List ℕ) → IsBytes (kind ∷ bytes)
    → made Exchange (exchange_at kind) bytes ≡ Ok (entry, rest) → Took plain_text IsEntry (kind ∷ bytes) entry rest
unfolding exchanges_at
exchange_taken kind bytes entry rest fits e =
    let m = made_takes Exchange exchanges_at exchange_text IsKeptExchange exchanges_exact (kind ∷ bytes) entry rest
    fits e in
    subst (λ y. Took plain_text IsEntry (kind ∷ bytes) y rest) (sym m.is) (m.parts, m.lawful, m.fits)

entry_takes : (bytes : List ℕ) (entry : Entry) (rest : List ℕ) → IsBytes bytes → entry_at bytes ≡ Ok (entry, rest)
    → Took plain_text IsEntry bytes entry rest
unfolding entry_at
entry_takes [] entry rest fits e = absurd cc
entry_takes (kind ∷ bytes) entry rest fits e =
    let others = made Exchange (exchange_at kind) bytes in
    let moments = cond (eqb kind 7) (made MomentsUpTo (number_at w64) bytes) others in
    elim (chosen (eqb kind 6) (made NumbersUpTo (number_at w32) bytes) moments (Ok (entry, rest)) e) [
      | inl p ↦
          marked NumbersUpTo (number_at w32) _ _ plain_text IsEntry 6 number32 (λ n. refl) (λ n h. h) (kind ∷ bytes)
          bytes rest entry fits (ap (λ (k : ℕ). k ∷ bytes) (eqb-true _ _ p.0)) p.1
      | inr p ↦ elim (chosen (eqb kind 7) (made MomentsUpTo (number_at w64) bytes) others (Ok (entry, rest)) p.1) [
        | inl q ↦
            marked MomentsUpTo (number_at w64) _ _ plain_text IsEntry 7 number64 (λ n. refl) (λ n h. h)
            (kind ∷ bytes) bytes rest entry fits (ap (λ (k : ℕ). k ∷ bytes) (eqb-true _ _ q.0)) q.1
        | inr q ↦ exchange_taken kind bytes entry rest fits q.1
      ]
    ]

no_numbers : (bytes : List ℕ) (x : KeptExchange) (rest : List ℕ) → exchange_at 6 bytes ≡ Ok (x, rest) → ⊥
unfolding exchange_at ask_at
no_numbers bytes x rest e = absurd cc

no_moments : (bytes : List ℕ) (x : KeptExchange) (rest : List ℕ) → exchange_at 7 bytes ≡ Ok (x, rest) → ⊥
unfolding exchange_at ask_at
no_moments bytes x rest e = absurd cc

-- no exchange has the kind of another entry
other_kind : (kind : ℕ) (bytes : List ℕ) (x : KeptExchange) (rest : List ℕ) → exchange_at kind bytes ≡ Ok (x, rest)
    → (eqb kind 6 ≡ false) × (eqb kind 7 ≡ false)
unfolding exchange_at ask_at
other_kind kind bytes x rest e = search (rules, arith, cases_Bool, no_numbers, eqb-true, no_moments)

exchange_again : (bytes : List ℕ) (x : KeptExchange) (rest : List ℕ) → exchanges_at bytes ≡ Ok (x, rest)
    → entry_at bytes ≡ Ok (Exchange x, rest)
unfolding exchanges_at entry_at
exchange_again [] x rest e = absurd cc
exchange_again (kind ∷ bytes) x rest e = search (rules, arith, other_kind)

entry_again : (entry : Entry) (rest : List ℕ) → IsEntry entry → entry_at (plain_text entry ++ rest) ≡ Ok (entry, rest)
unfolding entry_at
entry_again (Exchange x) rest lawful =
    cc (exchange_again (exchange_text x ++ rest) x rest (exchanges_exact.again x rest lawful))
entry_again (NumbersUpTo n) rest lawful = made_again NumbersUpTo (number_at w32) _ _ number32 n rest lawful
entry_again (MomentsUpTo m) rest lawful = made_again MomentsUpTo (number_at w64) _ _ number64 m rest lawful

-- ---- whole texts

plain_found : (bytes : List ℕ) (entry : Entry) → IsBytes bytes → plain_of bytes ≡ Ok entry
    → IsEntry entry × (bytes ≡ plain_text entry)
unfolding plain_of
plain_found bytes entry fits e =
    let a = bind_ok (entry_at bytes) (λ x. cond (eqb (length x.1) 0) (Ok x.0) (Err Trailing)) entry e in
    let g = ended (eqb (length a.0.1) 0) Trailing a.0.0 entry a.2 in
    let took = entry_takes bytes a.0.0 a.0.1 fits a.1 in
    let nothing : a.0.1 ≡ [] = nil_from_length a.0.1 (eqb-true _ _ g.0) in
    subst (λ y. IsEntry y × (bytes ≡ plain_text y)) g.1
    (took.1, took.0 ∙ ap (λ (r : List ℕ). plain_text a.0.0 ++ r) nothing ∙ append-nil (plain_text a.0.0))

plain_read : (entry : Entry) → IsEntry entry → plain_of (plain_text entry) ≡ Ok entry
unfolding plain_of
plain_read entry lawful =
    let one : entry_at (plain_text entry) ≡ Ok (entry, []) =
    ap entry_at (sym (append-nil (plain_text entry))) ∙ entry_again entry [] lawful in
    rw one refl

-- ---- behind them their checksums

entry_found : (bytes : List ℕ) (entry : Entry) → IsBytes bytes → entry_of bytes ≡ Ok entry
    → IsEntry entry × (bytes ≡ entry_text entry)
entry_found bytes entry fits e =
    let a = bind_ok (checked bytes) plain_of entry e in
    let found = checked_found bytes a.0 a.1 in
    let plain = plain_found a.0 entry (found.1 fits) a.2 in
    (plain.0, found.0 ∙ ap with_checksum plain.1)

pub entry_read : (entry : Entry) → IsEntry entry → entry_of (entry_text entry) ≡ Ok entry
entry_read entry lawful = simp (checked_again, plain_read)

pub is_found : (bytes : List ℕ) (r : Result Entry ReadError) → IsBytes bytes → Gives (λ x. x) r (entry_of bytes)
    → IfOk r (λ entry. IsEntry entry × (bytes ≡ entry_text entry))
is_found bytes (Ok entry) fits given = entry_found bytes entry fits given
is_found bytes (Err e) fits given = tt
