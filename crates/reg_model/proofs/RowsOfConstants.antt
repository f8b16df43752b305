-- Limits, statuses and rights as the rules give them, in digits: who changes a constant changes the rules.
use Rattle.std.proofs.Common.{◌≡◌, refl}
use Rattle.reg_model.specs.declared.limits.TheConstants.{SESSIONS_LIMIT, HANDLES_LIMIT, WATCHES_LIMIT, JOURNAL_LIMIT, NUMBERS_LIMIT}
use Rattle.reg_model.specs.declared.rights.TheConstants.{NO_RIGHTS, QUERY_VALUE, SET_VALUE, ENUMERATE_SUB_KEYS, DELETE_TREE, DELETE_CONTENTS, READ_CONTROL, WRITE_DAC, NOTIFY}
use Rattle.reg_model.specs.declared.filters.TheConstants.{NAME, LAST_SET, SECURITY, EVENTS, NO_FILTER}
use Rattle.reg_model.specs.declared.statuses.TheConstants.{FILE_NOT_FOUND, ACCESS_DENIED, INVALID_HANDLE, NOT_ENOUGH_MEMORY, INVALID_PARAMETER, INSUFFICIENT_BUFFER}
use Rattle.reg_model.specs.declared.statuses.TheConstants.{MORE_DATA, NO_MORE_ITEMS, KEY_DELETED, NO_SYSTEM_RESOURCES}

sessions_limit_is : SESSIONS_LIMIT ≡ 64
sessions_limit_is = refl

handles_limit_is : HANDLES_LIMIT ≡ 16384
handles_limit_is = refl

journal_limit_is : JOURNAL_LIMIT ≡ 16777216
journal_limit_is = refl

numbers_limit_is : NUMBERS_LIMIT ≡ 1000000000000000000
numbers_limit_is = refl

no_rights_is : NO_RIGHTS ≡ 4293984192
no_rights_is = refl

query_value_is : QUERY_VALUE ≡ 1
query_value_is = refl

set_value_is : SET_VALUE ≡ 2
set_value_is = refl

enumerate_sub_keys_is : ENUMERATE_SUB_KEYS ≡ 8
enumerate_sub_keys_is = refl

delete_tree_is : DELETE_TREE ≡ 65545
delete_tree_is = refl

delete_contents_is : DELETE_CONTENTS ≡ 65547
delete_contents_is = refl

read_control_is : READ_CONTROL ≡ 131072
read_control_is = refl

write_dac_is : WRITE_DAC ≡ 262144
write_dac_is = refl

file_not_found_is : FILE_NOT_FOUND ≡ 2
file_not_found_is = refl

access_denied_is : ACCESS_DENIED ≡ 5
access_denied_is = refl

invalid_handle_is : INVALID_HANDLE ≡ 6
invalid_handle_is = refl

not_enough_memory_is : NOT_ENOUGH_MEMORY ≡ 8
not_enough_memory_is = refl

invalid_parameter_is : INVALID_PARAMETER ≡ 87
invalid_parameter_is = refl

insufficient_buffer_is : INSUFFICIENT_BUFFER ≡ 122
insufficient_buffer_is = refl

more_data_is : MORE_DATA ≡ 234
more_data_is = refl

no_more_items_is : NO_MORE_ITEMS ≡ 259
no_more_items_is = refl

key_deleted_is : KEY_DELETED ≡ 1018
key_deleted_is = refl

no_system_resources_is : NO_SYSTEM_RESOURCES ≡ 1450
no_system_resources_is = refl

watches_limit_is : WATCHES_LIMIT ≡ 4096
watches_limit_is = refl

notify_is : NOTIFY ≡ 16
notify_is = refl

name_is : NAME ≡ 1
name_is = refl

last_set_is : LAST_SET ≡ 4
last_set_is = refl

security_is : SECURITY ≡ 10
security_is = refl

events_is : EVENTS ≡ 15
events_is = refl

no_filter_is : NO_FILTER ≡ 4026531824
no_filter_is = refl
