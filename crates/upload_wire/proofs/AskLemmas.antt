-- Names, and what is asked by a path and by a target.
use Rattle.std.proofs.Common.{◌≡◌, ℕ, List, [], ◌∙◌, ap, subst, inr, arith, rules}
use Rattle.std.specs.Prelude.{Option, Some, None, Result, Ok, Err, IfOk, option_copied, unwrap_or}
use Rattle.std.specs.Borrow.{Bor}
use Rattle.std.proofs.lemmas.Bool.{cases_Bool}
use Rattle.std.specs.declared.alloc.AllocError.{AllocError}
use Rattle.http_uri.specs.declared.uri.Uri.{Uri}
use Rattle.http_uri.specs.Uri.{Spells, uri_path, uri_query}
use Rattle.upload_names.specs.Name.{IsName}
use Rattle.upload_names.proofs.NameFacts.{IsName-from}
use Rattle.upload_service.specs.declared.ask.Extent.{Extent}
use Rattle.upload_wire.specs.declared.asks.HeadAsk.{HeadAsk}
use Rattle.upload_wire.specs.declared.asks.Method.{Method}
use Rattle.upload_wire.specs.Target.{named, method_of, AsksAt, HeadAsks}

pub named_none : (text : List ℕ) → (IsName text → ⊥) → None ≡ named text
named_none text differs = search (rules, arith, cases_Bool, IsName-from)

-- what is lent, or else nothing
pub copied_or : (query : Option (Bor (List ℕ))) (copied : Option (List ℕ)) (none result : Bor (List ℕ))
    → option_copied query ≡ copied → result ≡ unwrap_or query none → none.now ≡ [] → result.now ≡ unwrap_or copied []
copied_or None copied none result same is empty = ap (λ b. b.now) is ∙ empty ∙ ap (λ o. unwrap_or o []) same
copied_or (Some query) copied none result same is empty = ap (λ b. b.now) is ∙ ap (λ o. unwrap_or o []) same

pub by_uri : (method target path query : List ℕ) (verb : Method) (range : Extent) (uri : Uri)
    (r : Result HeadAsk AllocError) → Spells target uri → path ≡ uri_path uri → verb ≡ method_of method
    → query ≡ unwrap_or (uri_query uri) [] → IfOk r (AsksAt path verb query range)
    → IfOk r (HeadAsks method target range)
by_uri method target path query verb range uri (Ok ask) spells same_path same_method same_query asks =
    inr (
      uri,
      spells,
      subst (λ p. AsksAt p (method_of method) (unwrap_or (uri_query uri) []) range ask) same_path
          (subst (λ m. AsksAt path m (unwrap_or (uri_query uri) []) range ask) same_method
          (subst (λ q. AsksAt path verb q range ask) same_query asks)),
    )
by_uri method target path query verb range uri (Err e) spells same_path same_method same_query asks = tt
