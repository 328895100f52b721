-- The names of repositories (OCI Distribution Specification 1.1, section "Pulling manifests", `<name>`).
use Rattle.std.specs.Prelude.{◌≡◌, ℕ, ◌+◌, ◌<◌, ◌≤◌, List, ◌∷◌, ◌++◌, length, codes, flat_map, All, replicate, ◌⊎◌}
use Rattle.std.specs.Prelude.{IsTrue}
use Rattle.std.specs.List.{list_all}
pub use Rattle.upload_names.specs.NameBytes.{is_word_byte, hyphen, slash, longest_name}
-- the tests that decide what is defined here
pub use Rattle.upload_names.specs.NamePass.{is_in_grammar, is_name}

-- one or more letters and digits
pub record IsWord (text : List ℕ) : Type 0 where
  pub filled : 0 < length text
  pub bytes : IsTrue (list_all is_word_byte text)

-- a dot, an underscore, two underscores, or one or more hyphens
abbrev pub IsSeparator : List ℕ → Type 0
IsSeparator text =
    (text ≡ codes ".")
    ⊎ ((text ≡ codes "_") ⊎ ((text ≡ codes "__") ⊎ ((more : ℕ) × (text ≡ replicate (more + 1) hyphen))))

-- a separator and the word behind it
pub record Joint : Type 0 where
  pub separator : List ℕ
  pub word : List ℕ

abbrev pub IsJoint : Joint → Type 0
IsJoint joint = IsSeparator joint.separator × IsWord joint.word

abbrev pub joint_text : Joint → List ℕ
joint_text joint = joint.separator ++ joint.word

-- a component: a word, and then any number of times a separator and a word
pub record IsComponent (text : List ℕ) : Type 0 where
  pub first : List ℕ
  pub joints : List Joint
  pub is_word : IsWord first
  pub are_joints : All IsJoint joints
  pub cut : text ≡ first ++ flat_map joint_text joints

abbrev pub behind_slash : List ℕ → List ℕ
behind_slash component = slash ∷ component

-- a text of the grammar: one or more components, with a slash between each two
pub record IsInGrammar (text : List ℕ) : Type 0 where
  pub first : List ℕ
  pub others : List (List ℕ)
  pub is_component : IsComponent first
  pub are_components : All IsComponent others
  pub cut : text ≡ first ++ flat_map behind_slash others

-- A name: a text of the grammar that isn't too long.
pub record IsName (text : List ℕ) : Type 0 where
  pub in_grammar : IsInGrammar text
  pub short : length text ≤ longest_name
