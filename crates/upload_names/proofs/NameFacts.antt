-- The pass over a text decides the grammar of names.
use Rattle.std.proofs.lemmas.Grind.{common_steps}
use Rattle.std.proofs.Common.{◌≡◌, ℕ, zero, suc, ◌+◌, ◌≤◌, true, false, ◌&&◌, ◌||◌, List, [], ◌∷◌, ◌++◌, length, Option}
use Rattle.std.proofs.Common.{Some, None, refl, sym, ap, ◌∙◌, subst, ◌⊎◌, inl, inr, cond, arith, append_assoc, rules}
use Rattle.std.specs.Prelude.{◌==◌, codes, flat_map, All, replicate}
use Rattle.std.specs.List.{list_all}
use Rattle.std.specs.Str.{IsAscii, IsUtf8}
use Rattle.std.proofs.lemmas.Str.{IsUtf8-from_ascii}
use Rattle.std.proofs.lemmas.Str.Ascii.{IsAscii-nil, IsAscii-cons}
use Rattle.std.proofs.lemmas.Bool.{cases_lt, and_parts, or_cases, cases_Bool, eqb-true, leb-true, le-leb}
use Rattle.std.proofs.lemmas.List.Elements.{All-cons, All-nil, All-head, All-tail}
use Rattle.upload_names.specs.declared.name.Place.{Place}
use Rattle.upload_names.specs.declared.name.Place.TheVariants.{WordStart, InWord, BehindUnderscore, BehindHyphen}
use Rattle.upload_names.specs.Name.{is_word_byte, hyphen, slash, IsWord, IsSeparator, Joint, IsJoint, joint_text}
use Rattle.upload_names.specs.Name.{IsComponent, behind_slash, IsInGrammar, IsName, longest_name}
use Rattle.upload_names.specs.NameBytes.{dot, underscore}
use Rattle.upload_names.specs.NamePass.{place_behind_joint, passes, is_in_grammar, is_name}

-- ---- one byte of a pass

-- a byte of a word leads into a word
in_word : (place : Place) (c : ℕ) (text : List ℕ) → is_word_byte c ≡ true
    → passes (Some place) (c ∷ text) ≡ passes (Some InWord) text
in_word place c text h = ap (λ b. passes (cond b (Some InWord) (place_behind_joint place c)) text) h

-- any other byte belongs to a joint
in_joint : (place : Place) (c : ℕ) (text : List ℕ) → is_word_byte c ≡ false
    → passes (Some place) (c ∷ text) ≡ passes (place_behind_joint place c) text
in_joint place c text h = ap (λ b. passes (cond b (Some InWord) (place_behind_joint place c)) text) h

-- ---- every text of the grammar takes the pass

-- the bytes of a word lead into a word
passes-word_bytes : (bytes rest : List ℕ) → list_all is_word_byte bytes ≡ true
    → passes (Some InWord) (bytes ++ rest) ≡ passes (Some InWord) rest
passes-word_bytes [] rest h = refl
passes-word_bytes (c ∷ bytes) rest h = search (rules, arith, and_parts, in_word, passes-word_bytes bytes rest)

-- a word may begin anywhere
passes-word : (place : Place) (word rest : List ℕ) → IsWord word
    → passes (Some place) (word ++ rest) ≡ passes (Some InWord) rest
passes-word place [] rest w = absurd (omega (arith, w.filled))
passes-word place (c ∷ bytes) rest w = search (rules, arith, and_parts, in_word, passes-word_bytes)

passes-hyphens : (more : ℕ) (word rest : List ℕ) → IsWord word
    → passes (Some BehindHyphen) (replicate more hyphen ++ (word ++ rest)) ≡ passes (Some InWord) rest
passes-hyphens zero word rest w = passes-word BehindHyphen word rest w
passes-hyphens (suc more) word rest w = passes-hyphens more word rest w

replicate-more : (more : ℕ) → replicate (more + 1) hyphen ≡ hyphen ∷ replicate more hyphen
replicate-more more = search (rules, arith)

-- a separator and a word lead from the end of a word to the end of a word
passes-joint : (separator word rest : List ℕ) → IsSeparator separator → IsWord word
    → passes (Some InWord) (separator ++ (word ++ rest)) ≡ passes (Some InWord) rest
passes-joint separator word rest s w = search (rules, arith, passes-word, replicate-more, passes-hyphens)

passes-joints : (joints : List Joint) (rest : List ℕ) → All IsJoint joints
    → passes (Some InWord) (flat_map joint_text joints ++ rest) ≡ passes (Some InWord) rest
passes-joints [] rest h = refl
passes-joints (joint ∷ joints) rest h =
    grind (
      arith,
      All-head IsJoint joint joints h,
      append_assoc (joint.separator ++ joint.word) (flat_map joint_text joints) rest,
      append_assoc joint.separator joint.word (flat_map joint_text joints ++ rest),
      passes-joint joint.separator joint.word (flat_map joint_text joints ++ rest),
      All-tail IsJoint joint joints h,
      passes-joints joints rest (All-tail IsJoint joint joints h),
    )

passes-component : (component rest : List ℕ) → IsComponent component
    → passes (Some WordStart) (component ++ rest) ≡ passes (Some InWord) rest
passes-component component rest k =
    cc (
      append_assoc k.first (flat_map joint_text k.joints) rest,
      passes-word WordStart k.first (flat_map joint_text k.joints ++ rest) k.is_word,
      passes-joints k.joints rest k.are_joints,
    )

passes-others : (others : List (List ℕ)) → All IsComponent others
    → passes (Some InWord) (flat_map behind_slash others) ≡ true
passes-others [] h = refl
passes-others (component ∷ others) h =
    passes-component component (flat_map behind_slash others) (All-head IsComponent component others h)
    ∙ passes-others others (All-tail IsComponent component others h)

pub is_in_grammar-true : (text : List ℕ) → IsInGrammar text → is_in_grammar text ≡ true
unfolding is_in_grammar
is_in_grammar-true text g =
    cc (
      passes-component g.first (flat_map behind_slash g.others) g.is_component,
      passes-others g.others g.are_components,
    )

-- ---- every text that takes the pass is of the grammar

-- what may stand behind a word of a name
record IsTail (text : List ℕ) : Type 0 where
  joints : List Joint
  others : List (List ℕ)
  are_joints : All IsJoint joints
  are_components : All IsComponent others
  cut : text ≡ flat_map joint_text joints ++ flat_map behind_slash others

-- a word, and what may stand behind it
record IsNamed (text : List ℕ) : Type 0 where
  word : List ℕ
  tail : List ℕ
  is_word : IsWord word
  is_tail : IsTail tail
  cut : text ≡ word ++ tail

IsTail-nil : IsTail []
IsTail-nil =
    record { joints = []; others = []; are_joints = All-nil IsJoint; are_components = All-nil IsComponent; cut = refl }

-- behind a separator
IsTail-joint : (separator text : List ℕ) → IsSeparator separator → IsNamed text → IsTail (separator ++ text)
IsTail-joint separator text s n =
    let joint : Joint = record { separator = separator; word = n.word } in
    record {
      joints = joint ∷ n.is_tail.joints;
      others = n.is_tail.others;
      are_joints = All-cons IsJoint joint n.is_tail.joints (s, n.is_word) n.is_tail.are_joints;
      are_components = n.is_tail.are_components;
      cut = cc (
        append_assoc separator n.word (flat_map joint_text n.is_tail.joints ++ flat_map behind_slash n.is_tail.others),
        append_assoc (separator ++ n.word) (flat_map joint_text n.is_tail.joints)
            (flat_map behind_slash n.is_tail.others),
      );
    }

-- the component that a word and the joints behind it make
component_of : (text : List ℕ) (n : IsNamed text) → IsComponent (n.word ++ flat_map joint_text n.is_tail.joints)
component_of text n = search (rules, arith)

apart_from : (text : List ℕ) (n : IsNamed text)
    → text ≡ (n.word ++ flat_map joint_text n.is_tail.joints) ++ flat_map behind_slash n.is_tail.others
apart_from text n =
    cc (append_assoc n.word (flat_map joint_text n.is_tail.joints) (flat_map behind_slash n.is_tail.others))

-- behind a slash
IsTail-slash : (text : List ℕ) → IsNamed text → IsTail (slash ∷ text)
IsTail-slash text n =
    let component = n.word ++ flat_map joint_text n.is_tail.joints in
    record {
      joints = [];
      others = component ∷ n.is_tail.others;
      are_joints = All-nil IsJoint;
      are_components = All-cons IsComponent component n.is_tail.others (component_of text n) n.is_tail.are_components;
      cut = ap (λ t. slash ∷ t) (apart_from text n);
    }

-- the rest of a word, and what may stand behind it
record IsWordRest (text : List ℕ) : Type 0 where
  bytes : List ℕ
  tail : List ℕ
  are_bytes : list_all is_word_byte bytes ≡ true
  is_tail : IsTail tail
  cut : text ≡ bytes ++ tail

-- what may follow each place
Follows : Place → List ℕ → Type 0
Follows WordStart text = IsNamed text
Follows InWord text = IsWordRest text
Follows BehindUnderscore text = IsNamed text ⊎ ((rest : List ℕ) × IsNamed rest × (text ≡ underscore ∷ rest))
Follows BehindHyphen text = (more : ℕ) × (rest : List ℕ) × IsNamed rest × (text ≡ replicate more hyphen ++ rest)

-- a byte of a word before the rest of a word
IsNamed-cons : (c : ℕ) (text : List ℕ) → is_word_byte c ≡ true → IsWordRest text → IsNamed (c ∷ text)
IsNamed-cons c text h r = record {
  word = c ∷ r.bytes;
  tail = r.tail;
  is_word = record { filled = omega arith; bytes = ap (λ b. b && list_all is_word_byte r.bytes) h ∙ r.are_bytes };
  is_tail = r.is_tail;
  cut = ap (λ t. c ∷ t) r.cut;
}

IsWordRest-tail : (text : List ℕ) → IsTail text → IsWordRest text
IsWordRest-tail text t = record { bytes = []; tail = text; are_bytes = refl; is_tail = t; cut = refl }

-- a name that begins with a byte of a word follows each place
begins_word : (place : Place) (c : ℕ) (text : List ℕ) → is_word_byte c ≡ true → IsWordRest text
    → Follows place (c ∷ text)
unfolding Follows
begins_word WordStart c text h r = IsNamed-cons c text h r
begins_word InWord c text h r = record {
  bytes = c ∷ r.bytes;
  tail = r.tail;
  are_bytes = ap (λ b. b && list_all is_word_byte r.bytes) h ∙ r.are_bytes;
  is_tail = r.is_tail;
  cut = ap (λ t. c ∷ t) r.cut;
}
begins_word BehindUnderscore c text h r = inl (IsNamed-cons c text h r)
begins_word BehindHyphen c text h r = (zero, c ∷ text, IsNamed-cons c text h r, refl)

-- behind an underscore
IsTail-underscore : (text : List ℕ) → Follows BehindUnderscore text → IsTail (underscore ∷ text)
unfolding Follows
IsTail-underscore text f =
    elim f [
      | inl n ↦ IsTail-joint (codes "_") text (inr (inl refl)) n
      | inr (rest, n, e) ↦
          subst (λ t. IsTail (underscore ∷ t)) (sym e) (IsTail-joint (codes "__") rest (inr (inr (inl refl))) n)
    ]

-- behind a hyphen
IsTail-hyphen : (text : List ℕ) → Follows BehindHyphen text → IsTail (hyphen ∷ text)
unfolding Follows
IsTail-hyphen text (more, rest, n, e) =
    subst (λ t. IsTail (hyphen ∷ t)) (sym e)
    (subst (λ t. IsTail (t ++ rest)) (replicate-more more)
    (IsTail-joint (replicate (more + 1) hyphen) rest (inr (inr (inr (more, refl)))) n))

-- what passes behind a byte of a joint follows its place
passes_joint : (place : Place) (c : ℕ) (text : List ℕ)
    → ((next : Place) → passes (Some next) text ≡ true → Follows next text)
    → passes (place_behind_joint place c) text ≡ true → Follows place (c ∷ text)
unfolding Follows
passes_joint WordStart c text ih h = cc h
passes_joint InWord c text ih h =
    elim (cases_Bool ((c == dot) || (c == slash))) [
      | inl e ↦
          let n =
          ih WordStart (cc) in
          elim (or_cases (c == dot) (c == slash) e) [
            | inl is_dot ↦ subst (λ d. IsWordRest (d ∷ text)) (sym (eqb-true c dot is_dot))
                (IsWordRest-tail (dot ∷ text) (IsTail-joint (codes ".") text (inl refl) n))
            | inr is_slash ↦ search (rules, arith, eqb-true, IsWordRest-tail, IsTail-slash)
          ]
      | inr e ↦
          search (rules, arith, cases_Bool, eqb-true, IsWordRest-tail, IsTail-underscore, IsTail-hyphen)
    ]
passes_joint BehindUnderscore c text ih h = search (rules, arith, cases_Bool, eqb-true)
passes_joint BehindHyphen c text ih h =
    elim (cases_Bool (c == hyphen)) [
      | inl y ↦
          let f = ih BehindHyphen (sym (ap (λ b. passes (cond b (Some BehindHyphen) None) text) y) ∙ h) in
          (suc f.0, f.1, f.2, ap (λ d. d ∷ text) (eqb-true c hyphen y) ∙ ap (λ t. hyphen ∷ t) f.3)
      | inr y ↦
          cc
    ]

-- what passes from a place follows it
passes_follows : (text : List ℕ) (place : Place) → passes (Some place) text ≡ true → Follows place text
unfolding Follows
passes_follows [] WordStart h = cc h
passes_follows [] InWord h = IsWordRest-tail [] IsTail-nil
passes_follows [] BehindUnderscore h = cc h
passes_follows [] BehindHyphen h = cc h
passes_follows (c ∷ text) place h =
    grind (
      arith,
      common_steps,
      cases_Bool,
      begins_word,
      in_word,
      passes_joint,
      in_joint,
      passes_follows text InWord,
      passes_follows text,
    )

pub IsInGrammar-from : (text : List ℕ) → is_in_grammar text ≡ true → IsInGrammar text
unfolding is_in_grammar Follows
IsInGrammar-from text h =
    let n = passes_follows text WordStart h in
    record {
      first = n.word ++ flat_map joint_text n.is_tail.joints;
      others = n.is_tail.others;
      is_component = component_of text n;
      are_components = n.is_tail.are_components;
      cut = apart_from text n;
    }

-- ---- names are ASCII text

not_word_byte : (c : ℕ) → 128 ≤ c → is_word_byte c ≡ false
not_word_byte c high = grind (arith)

no_joint : (place : Place) (c : ℕ) → 128 ≤ c → place_behind_joint place c ≡ None
no_joint x1 x2 x3 = search (rules, arith)

IsAscii-passes : (text : List ℕ) (place : Place) → passes (Some place) text ≡ true → IsAscii text
IsAscii-passes [] place h = IsAscii-nil
IsAscii-passes (c ∷ text) place h =
    elim (cases_lt c 128) [
      | inl low ↦
          elim (cases_Bool (is_word_byte c)) [
            | inl w ↦ IsAscii-cons c text low (IsAscii-passes text InWord (sym (in_word place c text w) ∙ h))
            | inr w ↦ IsAscii-cons c text low
                (behind_some (place_behind_joint place c) (IsAscii-passes text) (sym (in_joint place c text w) ∙ h))
          ]
      | inr high ↦
          cc (in_joint place c text (not_word_byte c high), not_word_byte c high, no_joint place c high)
    ]
  where
    behind_some : (o : Option Place) → ((next : Place) → passes (Some next) text ≡ true → IsAscii text)
        → passes o text ≡ true → IsAscii text
    behind_some None ih e = cc e
    behind_some (Some next) ih e = ih next e

pub IsUtf8-in_grammar : (text : List ℕ) → is_in_grammar text ≡ true → IsUtf8 text
unfolding is_in_grammar
IsUtf8-in_grammar text h = IsUtf8-from_ascii text (IsAscii-passes text WordStart h)

-- ---- names

pub is_name-true : (text : List ℕ) → IsName text → is_name text ≡ true
unfolding is_name
is_name-true text n = cc (is_in_grammar-true text n.in_grammar, le-leb (length text) longest_name n.short)

pub IsName-from : (text : List ℕ) → is_name text ≡ true → IsName text
unfolding is_name
IsName-from text h = search (rules, arith, and_parts, IsInGrammar-from, leb-true)
