-- Inputs have one answer: the instance, or one first fault.
use Rattle.std.proofs.Common.{◌≡◌, ◌∙◌, ℕ, List, [], ◌∷◌, ◌++◌, length, Option, Result, Ok, Err, ap, subst, sym}
use Rattle.hsp_record.specs.Fields as formats
use Rattle.hsp_record.specs.Site.{site_format}
use Rattle.hsp_record.specs.Values.{HandleValue}
use Rattle.hsp_tables.specs.Settings.{SiteEntry}
use Rattle.hsp_text.specs.Answers.{◌>>=◌, Follows, Then}
use Rattle.hsp_instance.specs.Building.{AreSitesAfter, HasOneAnswer, IsNextSite, IsSiteOf, instance_with, site_octets}
use Rattle.hsp_instance.specs.Building.{site_of_reading}
use Rattle.hsp_instance.specs.Instance.{Site, servers_of}
use Rattle.hsp_instance.specs.declared.fault.BuildFault.{BuildFault}

-- no two answers are such
abbrev pub IsOne : {X : Type 0} → (X → Type 0) → Type 0
IsOne {X} Is = (a b : X) → Is a → Is b → a ≡ b

-- what follows the same step
follows_one : {A B E : Type 0} (Next : A → Result B E → Type 0) → ((x : A) → IsOne (Next x)) → (first : Result A E)
    → IsOne (Follows first Next)
follows_one Next next (Ok x) a b is also = next x a b is also
follows_one Next next (Err e) a b is also = is ∙ sym also

-- one step, and then the next
pub then_one : {A B E : Type 0} (First : Result A E → Type 0) (Next : A → Result B E → Type 0) → IsOne First
    → ((x : A) → IsOne (Next x)) → IsOne (Then First Next)
then_one First Next first next a b is also =
    let same = first also.0 is.0 also.1 is.1 in
    follows_one Next next is.0 a b is.2 (subst (λ t. Follows t Next b) same also.2)

module _ (one : formats.HasOneAnswer site_format) where
  -- an entry has one site, or one fault
  site_one : (n before : ℕ) (name : List ℕ) (from : Result (List ℕ) BuildFault) → IsOne (IsSiteOf n before name from)
  site_one n before name (Err fault) a b is also = is ∙ sym also
  site_one n before name (Ok bytes) a b is also =
      let same = one bytes is.0 also.0 is.1.not_memory also.1.not_memory is.1.means also.1.means in
      is.2 ∙ ap (λ t. site_of_reading n before name t) same ∙ sym also.2

  -- entries have one list of sites, or one first fault
  sites_one : (values : Option (List HandleValue)) (earlier : List Site) (entries : List SiteEntry)
      → IsOne (AreSitesAfter values earlier entries)
  sites_one values earlier [] a b is also = is ∙ sym also
  sites_one values earlier (entry ∷ more) a b is also =
      then_one (IsNextSite values earlier entry) (λ site rest. AreSitesAfter values (earlier ++ site ∷ []) more rest)
      (site_one (length earlier) (servers_of earlier) entry.name (site_octets values (length earlier) entry.source))
      (λ site. sites_one values (earlier ++ site ∷ []) more) a b is also

  -- inputs have one instance, or one first fault
  pub built_once : HasOneAnswer
  built_once inputs a b is also =
      let same = sites_one inputs.values [] inputs.settings.sites is.0 also.0 is.1 also.1 in
      is.2 ∙ ap (λ t. t >>= instance_with inputs) same ∙ sym also.2
