-- A head and a body ask one thing.
use Rattle.std.proofs.Common.{◌≡◌, ℕ, List, [], ◌∷◌, ◌++◌, length, refl, sym, ap, subst₂, ◌∙◌, arith, append_assoc}
use Rattle.std.proofs.Common.{length-append, inl, inr, rules}
use Rattle.std.specs.Prelude.{unwrap_or}
use Rattle.std.proofs.lemmas.List.{append_cancel_right}
use Rattle.httparse.specs.Grammar.{RequestHead}
use Rattle.http_uri.specs.Uri.{uri_path, uri_query}
use Rattle.upload_texts.proofs.UriTexts.{path_unique, query_unique}
use Rattle.upload_service.specs.declared.ask.Ask.{Ask}
use Rattle.upload_service.specs.declared.ask.Extent.{Extent}
use Rattle.http_wire.proofs.Heads.HeadLemmas.{snoc_inj}
use Rattle.upload_wire.specs.Target.{HasNoSlash, IsFormOf, method_of, named, blob_ask, upload_ask}
use Rattle.upload_wire.specs.Target.{ask_of_form, AsksAt, HeadAsks, AsksWhole}
use Rattle.upload_texts.specs.Paths.{blob_path, upload_path}
use Rattle.upload_names.specs.Reference.{reference_of}
use Rattle.upload_wire.specs.declared.asks.Method.{Method}
use Rattle.upload_wire.specs.declared.asks.HeadAsk.{HeadAsk}
use Rattle.upload_wire.specs.declared.asks.PathForm.{PathForm}
use Rattle.upload_wire.specs.declared.asks.PathForm.TheVariants as Path
use Rattle.upload_wire.proofs.TargetLemmas.{cut_unique}

-- ---- paths

no_slash_in_nothing : HasNoSlash []
no_slash_in_nothing k lt = absurd (omega arith)

-- /blobs
blobs : List ℕ
blobs = 47 ∷ 98 ∷ 108 ∷ 111 ∷ 98 ∷ 115 ∷ []

-- /blobs/uploads
uploads : List ℕ
uploads = 47 ∷ 98 ∷ 108 ∷ 111 ∷ 98 ∷ 115 ∷ 47 ∷ 117 ∷ 112 ∷ 108 ∷ 111 ∷ 97 ∷ 100 ∷ 115 ∷ []

-- the path behind "/v2/", cut at its last slash
blob_cut : (path name tail : List ℕ) → path ≡ blob_path name tail
    → path ≡ 47 ∷ 118 ∷ 50 ∷ 47 ∷ ((name ++ blobs) ++ 47 ∷ tail)
unfolding blobs
blob_cut path name tail e = cc (append_assoc name (47 ∷ 98 ∷ 108 ∷ 111 ∷ 98 ∷ 115 ∷ []) (47 ∷ tail))

upload_cut : (path name tail : List ℕ) → path ≡ upload_path name tail
    → path ≡ 47 ∷ 118 ∷ 50 ∷ 47 ∷ ((name ++ uploads) ++ 47 ∷ tail)
unfolding uploads
upload_cut path name tail e =
    cc (append_assoc name (47 ∷ 98 ∷ 108 ∷ 111 ∷ 98 ∷ 115 ∷ 47 ∷ 117 ∷ 112 ∷ 108 ∷ 111 ∷ 97 ∷ 100 ∷ 115 ∷ [])
    (47 ∷ tail))

-- two such cuts of one path are the same
same_cut : (path front tail other behind : List ℕ) → path ≡ 47 ∷ 118 ∷ 50 ∷ 47 ∷ (front ++ 47 ∷ tail)
    → path ≡ 47 ∷ 118 ∷ 50 ∷ 47 ∷ (other ++ 47 ∷ behind) → HasNoSlash tail → HasNoSlash behind
    → (front ≡ other) × (tail ≡ behind)
same_cut path front tail other behind x y none clear = search (rules, arith, cut_unique)

-- no text ends in both
not_both : (name other : List ℕ) → name ++ blobs ≡ other ++ uploads → ⊥
unfolding blobs uploads
not_both name other e =
    grind (
      arith,
      snoc_inj (name ++ (47 ∷ 98 ∷ 108 ∷ 111 ∷ 98 ∷ []))
          (other ++ (47 ∷ 98 ∷ 108 ∷ 111 ∷ 98 ∷ 115 ∷ 47 ∷ 117 ∷ 112 ∷ 108 ∷ 111 ∷ 97 ∷ 100 ∷ [])) 115 115
          (append_assoc name (47 ∷ 98 ∷ 108 ∷ 111 ∷ 98 ∷ []) (115 ∷ []) ∙ e
          ∙ sym (append_assoc other (47 ∷ 98 ∷ 108 ∷ 111 ∷ 98 ∷ 115 ∷ 47 ∷ 117 ∷ 112 ∷ 108 ∷ 111 ∷ 97 ∷ 100 ∷ [])
          (115 ∷ []))),
      append_assoc name (47 ∷ 98 ∷ 108 ∷ 111 ∷ 98 ∷ []) (115 ∷ []),
      append_assoc other (47 ∷ 98 ∷ 108 ∷ 111 ∷ 98 ∷ 115 ∷ 47 ∷ 117 ∷ 112 ∷ 108 ∷ 111 ∷ 97 ∷ 100 ∷ []) (115 ∷ []),
      snoc_inj (name ++ (47 ∷ 98 ∷ 108 ∷ 111 ∷ []))
          (other ++ (47 ∷ 98 ∷ 108 ∷ 111 ∷ 98 ∷ 115 ∷ 47 ∷ 117 ∷ 112 ∷ 108 ∷ 111 ∷ 97 ∷ [])) 98 100,
      append_assoc name (47 ∷ 98 ∷ 108 ∷ 111 ∷ []) (98 ∷ []),
      append_assoc other (47 ∷ 98 ∷ 108 ∷ 111 ∷ 98 ∷ 115 ∷ 47 ∷ 117 ∷ 112 ∷ 108 ∷ 111 ∷ 97 ∷ []) (100 ∷ []),
    )

-- "/v2/" has no further slash
base_has_no_cut : (path front tail : List ℕ) → path ≡ 47 ∷ 118 ∷ 50 ∷ 47 ∷ []
    → path ≡ 47 ∷ 118 ∷ 50 ∷ 47 ∷ (front ++ 47 ∷ tail) → ⊥
base_has_no_cut path front tail x y =
    let same : [] ≡ front ++ 47 ∷ tail = cc in
    let l = ap length same in
    omega (arith, l, length-append front (47 ∷ tail))

-- a path has one form, but for where its parts are kept
form_unique : (path : List ℕ) (form other : PathForm) (m : Method) (q : List ℕ) (r : Extent)
    → IsFormOf path form → IsFormOf path other → ask_of_form form m q r ≡ ask_of_form other m q r
form_unique path Path.Base Path.Base m q r x y = refl
form_unique path Path.Base (Path.Blob name tail) m q r x y = search (rules, arith, base_has_no_cut, blob_cut)
form_unique path Path.Base (Path.Uploads name) m q r x y = search (rules, arith, base_has_no_cut, upload_cut)
form_unique path Path.Base (Path.Upload name tail) m q r x y = search (rules, arith, base_has_no_cut, upload_cut)
form_unique path Path.Base Path.NoForm m q r x y = absurd (y.0 x)
form_unique path (Path.Blob name tail) Path.Base m q r x y = search (rules, arith, base_has_no_cut, blob_cut)
form_unique path (Path.Blob name tail) (Path.Blob other behind) m q r x y =
    let s = same_cut path (name.now ++ blobs) tail.now (other.now ++ blobs) behind.now
    (blob_cut path name.now tail.now x.0) (blob_cut path other.now behind.now y.0) x.1 y.1 in
    let names = append_cancel_right name.now other.now blobs s.0 in
    λ i. blob_ask (named (names i)) (s.1 i) m
form_unique path (Path.Blob name tail) (Path.Uploads other) m q r x y =
    absurd (not_both name.now other.now (same_cut path (name.now ++ blobs) tail.now (other.now ++ uploads) []
    (blob_cut path name.now tail.now x.0) (upload_cut path other.now [] y) x.1 no_slash_in_nothing).0)
form_unique path (Path.Blob name tail) (Path.Upload other behind) m q r x y =
    absurd (not_both name.now other.now (same_cut path (name.now ++ blobs) tail.now (other.now ++ uploads) behind.now
    (blob_cut path name.now tail.now x.0) (upload_cut path other.now behind.now y.0) x.1 y.1).0)
form_unique path (Path.Blob name tail) Path.NoForm m q r x y = absurd (y.1 name.now tail.now x.1 x.0)
form_unique path (Path.Uploads name) Path.Base m q r x y = search (rules, arith, base_has_no_cut, upload_cut)
form_unique path (Path.Uploads name) (Path.Blob other behind) m q r x y =
    absurd (not_both other.now name.now (same_cut path (other.now ++ blobs) behind.now (name.now ++ uploads) []
    (blob_cut path other.now behind.now y.0) (upload_cut path name.now [] x) y.1 no_slash_in_nothing).0)
form_unique path (Path.Uploads name) (Path.Uploads other) m q r x y =
    search (rules, arith, same_cut, upload_cut, no_slash_in_nothing, append_cancel_right)
form_unique path (Path.Uploads name) (Path.Upload other behind) m q r x y =
    let s = same_cut path (name.now ++ uploads) [] (other.now ++ uploads) behind.now
    (upload_cut path name.now [] x) (upload_cut path other.now behind.now y.0) no_slash_in_nothing y.1 in
    let some = y.2 in
    let none = ap length s.1 in
    absurd (omega (arith, some, none))
form_unique path (Path.Uploads name) Path.NoForm m q r x y = absurd (y.2 name.now [] no_slash_in_nothing x)
form_unique path (Path.Upload name tail) Path.Base m q r x y = search (rules, arith, base_has_no_cut, upload_cut)
form_unique path (Path.Upload name tail) (Path.Blob other behind) m q r x y =
    absurd (not_both other.now name.now (same_cut path (other.now ++ blobs) behind.now (name.now ++ uploads) tail.now
    (blob_cut path other.now behind.now y.0) (upload_cut path name.now tail.now x.0) y.1 x.1).0)
form_unique path (Path.Upload name tail) (Path.Uploads other) m q r x y =
    let s = same_cut path (name.now ++ uploads) tail.now (other.now ++ uploads) []
    (upload_cut path name.now tail.now x.0) (upload_cut path other.now [] y) x.1 no_slash_in_nothing in
    let some = x.2 in
    let none = ap length s.1 in
    absurd (omega (arith, some, none))
form_unique path (Path.Upload name tail) (Path.Upload other behind) m q r x y =
    let s = same_cut path (name.now ++ uploads) tail.now (other.now ++ uploads) behind.now
    (upload_cut path name.now tail.now x.0) (upload_cut path other.now behind.now y.0) x.1 y.1 in
    let names = append_cancel_right name.now other.now uploads s.0 in
    λ i. upload_ask (named (names i)) (reference_of (s.1 i)) m q r
form_unique path (Path.Upload name tail) Path.NoForm m q r x y = absurd (y.2 name.now tail.now x.1 x.0)
form_unique path Path.NoForm Path.Base m q r x y = absurd (x.0 y)
form_unique path Path.NoForm (Path.Blob other behind) m q r x y = absurd (x.1 other.now behind.now y.1 y.0)
form_unique path Path.NoForm (Path.Uploads other) m q r x y = absurd (x.2 other.now [] no_slash_in_nothing y)
form_unique path Path.NoForm (Path.Upload other behind) m q r x y = absurd (x.2 other.now behind.now y.1 y.0)
form_unique path Path.NoForm Path.NoForm m q r x y = refl

-- ---- targets

asks_at_unique : (path : List ℕ) (method : Method) (query : List ℕ) (range : Extent) (asked other : HeadAsk)
    → AsksAt path method query range asked → AsksAt path method query range other → asked ≡ other
asks_at_unique path method query range asked other x y = cc (form_unique path x.0 y.0 method query range x.1 y.1)

asks_unique : (method target : List ℕ) (range : Extent) (asked other : HeadAsk)
    → HeadAsks method target range asked → HeadAsks method target range other → asked ≡ other
asks_unique method target range asked other (inl x) (inl y) = x.1 ∙ sym y.1
asks_unique method target range asked other (inl x) (inr y) = absurd (x.0 _ _ _ y.1)
asks_unique method target range asked other (inr x) (inl y) = absurd (y.0 _ _ _ x.1)
asks_unique method target range asked other (inr x) (inr y) =
    let paths = path_unique target x.0 y.0 x.1 y.1 in
    let queries = query_unique target x.0 y.0 x.1 y.1 in
    asks_at_unique (uri_path y.0) (method_of method) (unwrap_or (uri_query y.0) []) range asked other
    (subst₂ (λ p q. AsksAt p (method_of method) (unwrap_or q []) range asked) paths queries x.2) y.2

pub asks_whole_unique : (head : RequestHead) (body : List ℕ) (ask other : Ask) → AsksWhole head body ask
    → AsksWhole head body other → ask ≡ other
asks_whole_unique head body ask other x y = cc (asks_unique head.method head.target _ x.0 y.0 x.1 y.1)
