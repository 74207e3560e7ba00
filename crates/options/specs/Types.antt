-- The options that eight values stand for: document 01, "Options", the bits 0 to 7 in order.
use Rattle.std.specs.Prelude.{ℕ, ◌≤◌, List, cond, get_or, eqb}
use Rattle.options.specs.declared.Casing.{Casing}
use Rattle.options.specs.declared.Casing.TheVariants.{Uppercase, Lowercase}
use Rattle.options.specs.declared.BracePosition.{BracePosition}
use Rattle.options.specs.declared.BracePosition.TheVariants.{SameLine, NewLine}
use Rattle.options.specs.declared.Alignment.{Alignment}
use Rattle.options.specs.declared.Alignment.TheVariants.{Left, Right}
use Rattle.options.specs.declared.FormattingOptions.{FormattingOptions}

-- "(0 upper, 1 lower)"
abbrev pub casing_of : ℕ → Casing
casing_of value = cond (eqb value 0) Uppercase Lowercase

-- "brace position (0 same line, 1 new line)"
abbrev pub position_of : ℕ → BracePosition
position_of value = cond (eqb value 0) SameLine NewLine

-- "label alignment (0 left, 1 right)"
abbrev pub alignment_of : ℕ → Alignment
alignment_of value = cond (eqb value 0) Left Right

-- "mnemonic casing, register casing, brace position, indent, label margin, label alignment, code margin, listing bytes per line"
abbrev pub options_of : ℕ → ℕ → ℕ → ℕ → ℕ → ℕ → ℕ → ℕ → FormattingOptions
options_of casing register_casing position indent label_margin label_alignment code_margin bytes_per_line = record {
  mnemonics = record { casing = casing_of casing; register_casing = casing_of register_casing };
  braces = record { position = position_of position };
  whitespace = record { indent = indent; label_margin = label_margin; label_alignment = alignment_of label_alignment; code_margin = code_margin };
  listing = record { num_bytes_per_line = bytes_per_line };
}

-- those of a list of eight values
abbrev pub options_from : List ℕ → FormattingOptions
options_from values =
    options_of (get_or values 0 0) (get_or values 1 0) (get_or values 2 0) (get_or values 3 0)
    (get_or values 4 0) (get_or values 5 0) (get_or values 6 0) (get_or values 7 0)

-- the numbers of options that were read: margins are bytes, and the indent is at most 64
pub record Narrow (options : FormattingOptions) : Type 0 where
  pub indent : options.whitespace.indent ≤ 64
  pub label : options.whitespace.label_margin ≤ 255
  pub code : options.whitespace.code_margin ≤ 255
  pub listing : options.listing.num_bytes_per_line ≤ 255
