-- The numbers of the kinds by name: document 01, "Kinds 0 to 23 are the `Token` cases in declared order ...; 24 list ...; 25 leaf; 26 path item of a
-- string; 27 `Block`; ... 42 an `ArgItem`". Every name is as good as its number.
use Rattle.std.specs.Prelude.{ℕ}

abbrev pub align : ℕ
align = 0

abbrev pub assert : ℕ
assert = 1

abbrev pub braces : ℕ
braces = 2

abbrev pub config : ℕ
config = 3

abbrev pub config_pair : ℕ
config_pair = 4

abbrev pub «data» : ℕ
«data» = 5

abbrev pub definition : ℕ
definition = 6

abbrev pub eof : ℕ
eof = 7

abbrev pub error : ℕ
error = 8

abbrev pub expression : ℕ
expression = 9

abbrev pub if : ℕ
if = 10

abbrev pub import : ℕ
import = 11

abbrev pub file : ℕ
file = 12

abbrev pub instruction : ℕ
instruction = 13

abbrev pub label : ℕ
label = 14

abbrev pub loop : ℕ
loop = 15

abbrev pub macro_definition : ℕ
macro_definition = 16

abbrev pub macro_invocation : ℕ
macro_invocation = 17

abbrev pub program_counter_definition : ℕ
program_counter_definition = 18

abbrev pub segment : ℕ
segment = 19

abbrev pub test : ℕ
test = 20

abbrev pub text : ℕ
text = 21

abbrev pub trace : ℕ
trace = 22

abbrev pub variable_definition : ℕ
variable_definition = 23

abbrev pub vec : ℕ
vec = 24

abbrev pub leaf : ℕ
leaf = 25

abbrev pub path_item : ℕ
path_item = 26

abbrev pub block : ℕ
block = 27

abbrev pub binary_expression : ℕ
binary_expression = 28

abbrev pub factor : ℕ
factor = 29

abbrev pub current_program_counter : ℕ
current_program_counter = 30

abbrev pub expr_parens : ℕ
expr_parens = 31

abbrev pub function_call : ℕ
function_call = 32

abbrev pub identifier_value : ℕ
identifier_value = 33

abbrev pub number : ℕ
number = 34

abbrev pub string_factor : ℕ
string_factor = 35

abbrev pub interpolated_string : ℕ
interpolated_string = 36

abbrev pub operand : ℕ
operand = 37

abbrev pub register_suffix : ℕ
register_suffix = 38

abbrev pub import_as : ℕ
import_as = 39

abbrev pub import_all : ℕ
import_all = 40

abbrev pub specific_import_arg : ℕ
specific_import_arg = 41

abbrev pub arg_item : ℕ
arg_item = 42

-- where there is no kind
abbrev pub none : ℕ
none = 43
